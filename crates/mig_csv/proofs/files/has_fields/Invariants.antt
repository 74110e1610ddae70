use Rattle.mig_csv.proofs.Common.{fields_of}
use Rattle.mig_csv.proofs.Fields.{Agree}
use Rattle.mig_csv.proofs.files.has_fields.Given as goal

abbrev pub invariant-loop-i : goal.invariant-loop-i
invariant-loop-i l = Agree (fields_of l.row) l.fields l.i

use Rattle.mig_csv.proofs.Common.{fields_of, refl}
use Rattle.mig_csv.proofs.DiskRows.{field_at-slice_get}
use Rattle.mig_csv.proofs.rows.field.Goals as goal

pub returns-in-Some : goal.returns-in-Some
returns-in-Some c = rw (← field_at-slice_get (fields_of c.args.row.now) c.args.i, ← c.in-Some.ensures.value) refl

pub returns-in-None : goal.returns-in-None
returns-in-None c = rw (← field_at-slice_get (fields_of c.args.row.now) c.args.i, ← c.in-None.ensures.value) refl

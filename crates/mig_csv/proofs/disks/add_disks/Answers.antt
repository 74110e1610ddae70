use Rattle.mig_csv.proofs.Common.{DisksRowFault, IsFirstCause, arith, fields_of, is_err, name_in_row, on-ok, refl, subst}
use Rattle.mig_base.specs.declared.faults.Why.TheVariants as why
use Rattle.mig_csv.proofs.DiskFiles.{ReadSoFar-end, ReadSoFar-fault, ReadSoFar-few, ReadSoFar-few_names, ReadSoFar-names, ReadSoFar-push, ReadSoFar-start, ReadSoFar-value}
use Rattle.mig_csv.proofs.disks.add_disks.Goals as goal

pub rows-init : goal.rows-init
rows-init c bytes opened same = rw (c.requires.no_names, c.requires.no_disks) (ReadSoFar-start _ opened.short opened.rows)

pub returns-clause-listed : goal.returns-clause-listed
returns-clause-listed c bytes opened same = grind (arith, ReadSoFar-value, ReadSoFar-few, ReadSoFar-names, ReadSoFar-end)

pub push-requires : goal.push-requires
push-requires c = rw (c.in-Ok.ensures.value, name_in_row) (c.in-Ok.ensures.sound why.DuplicateDisk)

pub rows-preserved : goal.rows-preserved
rows-preserved c bytes opened same = grind (arith, fields_of, ReadSoFar-push, is_err, on-ok)

pub overflow_cast-len : goal.overflow_cast-len
overflow_cast-len c = grind (arith, ReadSoFar-few_names)

pub overflow_add-len : goal.overflow_add-len
overflow_add-len c = grind (arith, ReadSoFar-few_names)

pub returns-in-Err-clause-fault : goal.returns-in-Err-clause-fault
returns-in-Err-clause-fault c bytes opened same =
    let cause = subst (λ b. IsFirstCause (DisksRowFault b c.rows.listed.names (fields_of c.read.new.row)) c.in-Err.why) same c.in-Err.ensures.cause in
    let one = rw c.if-branch.true at c.in_ok-read.ensures.found in
    let f = ReadSoFar-fault (c.rows.invariant bytes opened same) (fields_of c.read.new.row) c.read.new.self c.in-Err.why one cause in
    rw (c.refused.ensures, c.len.ensures) (refl, f)

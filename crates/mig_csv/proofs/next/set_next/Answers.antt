use Rattle.mig_csv.proofs.Common.{arith, fields_of, refl, slice_get_within}
use Rattle.mig_csv.proofs.WayRows.{WaysSoFar-end, WaysSoFar-fault, WaysSoFar-push, WaysSoFar-start, WaysSoFar-ways}
use Rattle.mig_csv.proofs.next.set_next.Goals as goal

pub rows-init : goal.rows-init
rows-init c bytes opened = rw c.requires.none (WaysSoFar-start _ opened.short opened.rows)

pub returns-clause-listed : goal.returns-clause-listed
returns-clause-listed c bytes opened = grind (arith, WaysSoFar-ways, WaysSoFar-end)

pub rows-preserved : goal.rows-preserved
rows-preserved c bytes opened = grind (arith, WaysSoFar-push, fields_of)

pub returns-in-Err-clause-fault : goal.returns-in-Err-clause-fault
returns-in-Err-clause-fault c bytes opened =
    let one = rw c.if-branch.true at c.in_ok-read.ensures.found in
    let f = WaysSoFar-fault (c.rows.invariant bytes opened) (fields_of c.read.new.row) c.read.new.self c.in-Err.why one (rw c.deref.ensures.value at c.in-Err.ensures.cause) in
    rw c.refused.ensures (refl, f)

pub index_mut-requires : goal.index_mut-requires
index_mut-requires c = grind (arith, slice_get_within, fields_of)

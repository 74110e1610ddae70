use Rattle.mig_store.proofs.Common.{AreDifferent, subst}
use Rattle.mig_store.proofs.CellLists.{held_at-found, held_at-absent}
use Rattle.mig_store.proofs.held.get.Goals as goal

pub returns-in-Some-clause-some : goal.returns-in-Some-clause-some
returns-in-Some-clause-some g c =
    held_at-found c.args.held.now c.args.cell.now c.in-Some.i (rw (← c.requires) c.in-Some.ensures.found) (subst AreDifferent c.requires c.find.ensures.different) c.index-held-i.result

pub returns-in-None-clause-none : goal.returns-in-None-clause-none
returns-in-None-clause-none g c = held_at-absent c.args.held.now c.args.cell.now (rw (← c.requires) c.in-None.ensures.found)

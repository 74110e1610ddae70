use Rattle.mig_plan.proofs.Common.{AreTaken, take}
use Rattle.mig_plan.proofs.slots.rows_of.Given as goal

abbrev pub invariant-loop-spot : goal.invariant-loop-spot
invariant-loop-spot l = AreTaken l.widths (take l.spot-index l.spots) l.rows.items

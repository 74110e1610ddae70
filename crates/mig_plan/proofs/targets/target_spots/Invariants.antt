use Rattle.mig_plan.proofs.Common.{AreFirstTargets}
use Rattle.mig_plan.proofs.targets.target_spots.Given as goal

abbrev pub invariant-loop-item : goal.invariant-loop-item
invariant-loop-item l = AreFirstTargets l.input l.item l.targets.items l.cursors.items

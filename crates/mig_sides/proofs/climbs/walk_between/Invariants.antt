use Rattle.mig_sides.proofs.Common.{length, ◌+◌}
use Rattle.mig_sides.proofs.ClimbLaws.{IsWalking}
use Rattle.mig_sides.proofs.climbs.walk_between.Given as goal

abbrev pub invariant-loop-left : goal.invariant-loop-left
invariant-loop-left l = IsWalking l.nodes l.fn.one.0 l.down.items l.left (length l.initial.walk.items + l.initial.left) l.walk.items

abbrev pub decreases-loop-left : goal.decreases-loop-left
decreases-loop-left l = l.left

use Rattle.mig_euler.proofs.FollowLaws.{IsFollowing, waiting}
use Rattle.mig_euler.proofs.trails.follow.Given as goal

abbrev pub invariant-loop-at : goal.invariant-loop-at
invariant-loop-at l = IsFollowing l.ends l.fn.directions l.directions l.from l.fn.start l.at

abbrev pub decreases-loop-at : goal.decreases-loop-at
decreases-loop-at l = waiting l.ends l.directions

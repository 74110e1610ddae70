use Rattle.mig_euler.proofs.Common.{PassedBelow, length, ◌-◌, ◌≤◌}
use Rattle.mig_euler.proofs.links.waiting_edge.Given as goal

abbrev pub invariant-loop-place : goal.invariant-loop-place
invariant-loop-place l = record { within : l.place ≤ length l.ends; passed : PassedBelow l.ends l.directions l.fn.disk l.place }

abbrev pub decreases-loop-place : goal.decreases-loop-place
decreases-loop-place l = length l.ends - l.place

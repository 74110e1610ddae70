use Rattle.mig_euler.proofs.Common.{MatchBool, length, take, total, waits, ◌%◌, ◌-◌, ◌≡◌, ◌≤◌}
use Rattle.mig_euler.proofs.trails.is_odd.Given as goal

abbrev pub invariant-loop-place : goal.invariant-loop-place
invariant-loop-place l = record { within : l.place ≤ length l.ends; parity : MatchBool l.odd (total (waits l.fn.disk) (take l.place l.ends) (take l.place l.directions) % 2 ≡ 1) (total (waits l.fn.disk) (take l.place l.ends) (take l.place l.directions) % 2 ≡ 0) }

abbrev pub decreases-loop-place : goal.decreases-loop-place
decreases-loop-place l = length l.ends - l.place

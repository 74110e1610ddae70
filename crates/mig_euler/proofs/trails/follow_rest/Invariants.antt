use Rattle.mig_euler.proofs.Common.{DiskId, IsBalancedSoFar, length, total, waits, ◌%◌, ◌<◌, ◌≡◌}
use Rattle.mig_euler.proofs.trails.follow_rest.Given as goal

abbrev pub invariant-loop-disk : goal.invariant-loop-disk
invariant-loop-disk l = IsBalancedSoFar l.ends l.directions l.from × (length l.from ≡ length l.initial.from) × ((v : DiskId) → total (waits v) l.ends l.directions % 2 ≡ 0) × ((v : DiskId) → v.0 < l.disk → total (waits v) l.ends l.directions ≡ 0)

use Rattle.mig_check.proofs.Common.{Spot, has_spot, is_source, not, take, ◌&&◌, ◌≡◌}
use Rattle.mig_check.proofs.shifts.free_sources.Given as goal

abbrev pub invariant-loop-s : goal.invariant-loop-s
invariant-loop-s l = (t : Spot) → has_spot l.taken t ≡ (not (is_source (take l.s-index l.round) t) && has_spot l.initial.taken t)

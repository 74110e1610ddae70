use Rattle.mig_check.proofs.Common.{drop, get_or, length, load, map, transfer_of, ℕ, ◌<◌, ◌≤◌}
use Rattle.mig_check.proofs.ends.clear_ends.Given as goal

abbrev pub invariant-loop-s : goal.invariant-loop-s
invariant-loop-s l = (v : ℕ) → v < length l.counts → get_or l.counts v 0 ≤ load v (map transfer_of (drop l.s-index l.round))

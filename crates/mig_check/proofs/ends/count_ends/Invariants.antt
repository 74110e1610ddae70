use Rattle.mig_check.proofs.Common.{get_or, length, map, part_load, take, transfer_of, ℕ, ◌<◌, ◌≡◌}
use Rattle.mig_check.proofs.ends.count_ends.Given as goal

abbrev pub invariant-loop-s : goal.invariant-loop-s
invariant-loop-s l = (v : ℕ) → v < length l.counts → get_or l.counts v 0 ≡ part_load l.fn.part v (map transfer_of (take l.s-index l.round))

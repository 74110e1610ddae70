use Rattle.mig_check.proofs.Common.{count_by, get_or, is_of, length, take, ℕ, ◌+◌, ◌<◌, ◌≡◌}
use Rattle.mig_check.proofs.moved.count_round.Given as goal

abbrev pub invariant-loop-s : goal.invariant-loop-s
invariant-loop-s l = (item : ℕ) → item < length l.counts → get_or l.counts item 0 ≡ get_or l.initial.counts item 0 + count_by (is_of item) (take l.s-index l.round)

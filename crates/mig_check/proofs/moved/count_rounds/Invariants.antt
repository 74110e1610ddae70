use Rattle.mig_check.proofs.Common.{get_or, length, shift_count, take, ℕ, ◌<◌, ◌≡◌, ◌≤◌}
use Rattle.mig_check.proofs.moved.count_rounds.Given as goal

abbrev pub invariant-loop-round : goal.invariant-loop-round
invariant-loop-round l = record {
  counted : (item : ℕ) → item < length l.counts → get_or l.counts item 0 ≡ shift_count (take l.round-index l.rounds) item;
  most : (item : ℕ) → item < length l.counts → get_or l.counts item 0 ≤ l.round-index;
}

use Rattle.mig_check.proofs.Common.{IsTooOften, ℕ, ◌<◌}
use Rattle.mig_check.proofs.moved.find_moved.Given as goal

abbrev pub invariant-loop-i : goal.invariant-loop-i
invariant-loop-i l = (item : ℕ) → item < l.i → ¬ IsTooOften l.input l.counts item

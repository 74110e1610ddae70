use Rattle.mig_numbers.proofs.Common.{get_or, ℕ, ◌<◌}
use Rattle.mig_numbers.proofs.spelling.is_increasing.Given as goal

abbrev pub invariant-loop-k : goal.invariant-loop-k
invariant-loop-k l = (i j d : ℕ) → i < j → j < l.k → get_or l.set i d < get_or l.set j d

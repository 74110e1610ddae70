use Rattle.mig_numbers.proofs.Common.{All, [], length, ◌≡◌}
use Rattle.mig_numbers.proofs.spelling.empty_rounds.Given as goal

abbrev pub invariant-loop : goal.invariant-loop
invariant-loop l = record { len : length l.made.items ≡ l.counter; empty : All (λ round. round.items ≡ []) l.made.items }

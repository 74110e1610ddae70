use Rattle.mig_plan.proofs.Common.{All, length, ◌≡◌, ◌≤◌}
use Rattle.mig_plan.proofs.rows.sizes_of.Given as goal

abbrev pub invariant-loop-colour : goal.invariant-loop-colour
invariant-loop-colour l = record { len : length l.sizes.items ≡ l.fn.count; few : All (λ n. n ≤ l.colour-index) l.sizes.items }

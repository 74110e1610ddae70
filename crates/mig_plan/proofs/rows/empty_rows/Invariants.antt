use Rattle.mig_plan.proofs.Common.{All, [], length, ◌≡◌}
use Rattle.mig_plan.proofs.rows.empty_rows.Given as goal

abbrev pub invariant-loop-size : goal.invariant-loop-size
invariant-loop-size l = record { len : length l.rows.items ≡ l.size-index; empty : All (λ row. row.items ≡ []) l.rows.items }

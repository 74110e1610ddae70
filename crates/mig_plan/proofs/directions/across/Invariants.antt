use Rattle.mig_plan.proofs.Common.{is_forward, length, side_of, transfer_at, ℕ, ◌<◌, ◌≡◌}
use Rattle.mig_plan.proofs.directions.across.Given as goal

abbrev pub invariant-loop-edge : goal.invariant-loop-edge
invariant-loop-edge l = record { len : length l.directions.items ≡ l.edge; leads : (k : ℕ) → k < l.edge → is_forward l.directions.items k ≡ side_of l.sides (transfer_at l.graph.transfers k).leaves }

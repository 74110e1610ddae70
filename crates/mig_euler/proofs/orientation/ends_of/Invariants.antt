use Rattle.mig_euler.proofs.Common.{length, pair_at, pair_transfer, transfer_at, ℕ, ◌<◌, ◌≡◌}
use Rattle.mig_euler.proofs.orientation.ends_of.Given as goal

abbrev pub invariant-loop-edge : goal.invariant-loop-edge
invariant-loop-edge l = record { len : length l.ends.items ≡ l.edge; known : (e : ℕ) → e < l.edge → pair_transfer (pair_at l.ends.items e) ≡ transfer_at l.graph.transfers e }

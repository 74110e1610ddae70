use Rattle.mig_split.proofs.Common.{head_of, is_forward, length, listed_disk, transfer_at, ℕ, ◌<◌, ◌≡◌}
use Rattle.mig_split.proofs.ends.heads_of.Given as goal

abbrev pub invariant-loop-edge : goal.invariant-loop-edge
invariant-loop-edge l = record { len : length l.disks.items ≡ l.edge; known : (k : ℕ) → k < l.edge → listed_disk l.disks.items k ≡ head_of (transfer_at l.graph.transfers k) (is_forward l.directions k) }

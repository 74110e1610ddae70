use Rattle.mig_split.proofs.Common.{copy_at, length, ℕ, ◌<◌, ◌≡◌}
use Rattle.mig_split.proofs.sharing.nodes_of.Given as goal

abbrev pub invariant-loop-stop : goal.invariant-loop-stop
invariant-loop-stop l = record { len : length l.ends.items ≡ l.stop-index; node : (i : ℕ) → i < l.stop-index → copy_at l.ends.items i ≡ copy_at l.nodes (copy_at l.stops i) }

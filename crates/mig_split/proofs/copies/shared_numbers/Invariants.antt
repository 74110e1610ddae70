use Rattle.mig_split.proofs.Common.{get_or, length, shared, ℕ, ◌<◌, ◌≡◌}
use Rattle.mig_split.proofs.copies.shared_numbers.Given as goal

abbrev pub invariant-loop-disk : goal.invariant-loop-disk
invariant-loop-disk l = record { len : length l.numbers.items ≡ l.disk; each : (v : ℕ) → v < l.disk → get_or l.numbers.items v 0 ≡ shared l.graph l.share v }

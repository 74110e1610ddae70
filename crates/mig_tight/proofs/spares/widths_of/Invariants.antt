use Rattle.mig_tight.proofs.Common.{first_slots, get_or, length, ℕ, ◌<◌, ◌≡◌}
use Rattle.mig_tight.proofs.spares.widths_of.Given as goal

abbrev pub invariant-loop-disk : goal.invariant-loop-disk
invariant-loop-disk l = record { len : length l.widths.items ≡ l.disk; width : (v : ℕ) → v < l.disk → get_or l.widths.items v 0 ≡ first_slots l.input v }

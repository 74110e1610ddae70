use Rattle.mig_plan.proofs.Common.{Bool, Global, Vec, false, get_or, length, replicate, row_at, ℕ, ◌<◌, ◌≡◌}
use Rattle.mig_plan.proofs.slots.free_rows.Given as goal

abbrev pub invariant-loop-width : goal.invariant-loop-width
invariant-loop-width l = record { len : length l.rows.items ≡ l.width-index; row : (v : ℕ) (d : Vec Bool Global) → v < l.width-index → row_at l.rows.items v d ≡ replicate (get_or l.widths v 0) false }

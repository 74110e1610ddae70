use Rattle.mig_tight.proofs.Common.{is_relocated, true, ℕ, ◌<◌, ◌≡◌}
use Rattle.mig_tight.proofs.checks.has_move.Given as goal

abbrev pub invariant-loop-item : goal.invariant-loop-item
invariant-loop-item l = (item : ℕ) → item < l.item → is_relocated l.input item ≡ true → ⊥

use Rattle.mig_plan.proofs.Common.{is_taken, true, ℕ, ◌<◌, ◌≡◌, ◌≤◌}
use Rattle.mig_plan.proofs.slots.first_free.Given as goal

abbrev pub invariant-loop-slot : goal.invariant-loop-slot
invariant-loop-slot l = (s : ℕ) → l.fn.from ≤ s → s < l.slot → is_taken l.row s ≡ true

use Rattle.mig_drill.proofs.Common.{AllWithin, ChangesOnly, HoldsMade, IsListedCell, length, state_of, ℕ, ◌<◌}
use Rattle.mig_drill.proofs.stores.put_round.Given as goal

-- the items of the first shifts are made, and those that were made still are
abbrev pub invariant-loop-shift : goal.invariant-loop-shift
invariant-loop-shift l = record {
  made : AllWithin (λ s. HoldsMade l.input (state_of l.store).reads s.item.0) l.shifts 0 l.shift-index;
  kept : (item : ℕ) → item < length l.input.items → HoldsMade l.input (state_of l.initial.store).reads item → HoldsMade l.input (state_of l.store).reads item;
  change : ChangesOnly (IsListedCell l.input) (state_of l.initial.store) (state_of l.store);
}

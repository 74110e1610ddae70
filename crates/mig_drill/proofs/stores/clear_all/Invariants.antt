use Rattle.mig_drill.proofs.Common.{AllWithin, IsZeroed, StaysTold, [], flights, state_of, ◌≡◌}
use Rattle.mig_drill.proofs.stores.clear_all.Given as goal

-- the first cells are clear
abbrev pub invariant-loop-cell : goal.invariant-loop-cell
invariant-loop-cell l = record {
  clear : AllWithin (IsZeroed (state_of l.store).reads) l.cells 0 l.cell-index;
  none : flights (state_of l.store) ≡ [];
  told : StaysTold (state_of l.initial.store).reads (state_of l.store).reads;
}

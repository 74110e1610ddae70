use Rattle.mig_mover.proofs.Common.{ChangesOnly, IfSome, IsListedCell, item_cell, item_name, made_slot, ℕ, ◌<◌, ◌≡◌, ◌≤◌}
use Rattle.mig_mover.proofs.filling.put_items.Given as goal

abbrev pub invariant-loop-item : goal.invariant-loop-item
invariant-loop-item g l = record {
  made : (k : ℕ) → k < l.item → IfSome ((g.S.Store.state l.store).reads (item_cell l.input k)) (λ slot. slot ≡ made_slot (item_name l.input k));
  change : ChangesOnly (IsListedCell l.input) (g.S.Store.state l.initial.store) (g.S.Store.state l.store);
  later : (g.S.Store.state l.initial.store).faults ≤ (g.S.Store.state l.store).faults;
}

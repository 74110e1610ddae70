use Rattle.mig_store.proofs.Common.{AreWithin, Cell, CellBytes, Entry, Event, Flight, Held, IsLog, List, StoreCall, [], ap, arith, cell_of, firsts, fresh, held_at, held_map, length, map, option_map, seen_all}
use Rattle.mig_store.proofs.Common.{subst, sym, zero_entry, zero_held, ℕ, ◌∙◌, ◌≡◌}
use Rattle.mig_store.proofs.CellLists.{held_at-map, zero-lengths}
use Rattle.mig_store.proofs.Crashes.{HaveLengths, fresh_log}
use Rattle.mig_store.proofs.EntryLists.{seen_zero, firsts_zero, within_zero, cells_of-entries}
use Rattle.mig_store.proofs.ledger.Ledger.new.Goals as goal

-- cells that hold zeros, before the first call
module _ (cells : List Cell) (items : List (Held Entry)) (zero : items ≡ map zero_entry cells) where
  is_first : firsts items ≡ map zero_held cells
  is_first = ap firsts zero ∙ firsts_zero cells

  module _ (calls : List StoreCall) where
    is_held : seen_all calls 1 items ≡ map (held_map fresh) (firsts items)
    is_held = ap (seen_all calls 1) zero ∙ seen_zero calls cells ∙ ap (λ (l : List (Held (List ℕ))). map (held_map fresh) l) (sym is_first)

    is_log : calls ≡ [] → (room : ℕ) (events : List Event) → events ≡ [] → (flying : List Flight) → flying ≡ [] → IsLog (record { first = firsts items; calls = calls; room = room }) (seen_all calls 1 items) events flying
    is_log none room events no_events flying no_flying =
        let first = firsts items in
        let held = seen_all calls 1 items in
        let shown : held_at held ≡ (λ cell. option_map fresh (held_at first cell)) = ap (λ (l : List (Held CellBytes)). held_at l) is_held ∙ (λ i cell. held_at-map fresh first cell i) in
        let lengths : HaveLengths (held_at first) = subst (λ (l : List (Held (List ℕ))). HaveLengths (held_at l)) (sym is_first) (zero-lengths cells) in
        subst (λ (l : List Event). IsLog (record { first = first; calls = calls; room = room }) held l flying) (sym no_events)
        (subst (λ (l : List Flight). IsLog (record { first = first; calls = calls; room = room }) held [] l) (sym no_flying) (fresh_log first held shown lengths room calls none))

  are_cells : cells ≡ map cell_of items
  are_cells = sym (ap (λ (l : List (Held Entry)). map cell_of l) zero ∙ cells_of-entries cells)

  are_within : (n : ℕ) → AreWithin n 1 items
  are_within n = subst (AreWithin n 1) (sym zero) (within_zero n cells)

pub invariant_of-result : goal.invariant_of-result
invariant_of-result c =
    let cells = c.args.cells.now in
    let items = c.in_ok-zero_entries.field-0.items in
    let calls = c.in_ok-new.field-0.calls in (
      is_log cells items c.in_ok-zero_entries.ensures calls c.in_ok-new.ensures.calls c.args.room c.in_ok-with_capacity.field-0.items c.in_ok-with_capacity.ensures.items c.in_ok-with_capacity-2.field-0.items c.in_ok-with_capacity-2.ensures.items,
      c.in_ok-of.ensures ∙ are_cells cells items c.in_ok-zero_entries.ensures,
      are_within cells items c.in_ok-zero_entries.ensures (length calls),
      omega arith,
      omega arith,
      omega (arith, c.in_ok-new.ensures.room),
      c.in_ok-with_capacity.ensures.capacity,
      c.in_ok-with_capacity-2.ensures.capacity,
    )

pub returns : goal.returns
returns c = λ i. record {
  first = is_first c.args.cells.now c.in_ok-zero_entries.field-0.items c.in_ok-zero_entries.ensures i;
  calls = c.in_ok-new.ensures.calls i;
  room = c.args.room;
}

use Rattle.mig_store.proofs.Common.{Changes, Event, Held, IsCopy, List, Some, [], ap, began, cell_len, held_at, length, subst, sure_state, sym, ℕ, ◌∙◌, ◌∷◌, ◌≡◌}
use Rattle.mig_store.proofs.SureSteps.{slot_len, held_len, sure-lengths, sure-changes, sure-copied}
use Rattle.mig_store.proofs.sure.SureStoreStore.begin.Goals as goal

is_read : (c : goal.After-put) → held_at c.self.inside.held.items c.args.from.now ≡ Some c.copied-bytes.result
is_read c = ap (λ (l : List (Held (List ℕ))). held_at l c.args.from.now) (sym c.deref.ensures.value) ∙ c.in-Some.ensures.some ∙ ap Some (sym c.copied-bytes.ensures)

fits : (c : goal.After-put) → length c.copied-bytes.result ≡ cell_len c.args.to.now
fits c = held_len c.self.inside.held.items c.args.from.now c.copied-bytes.result c.self.invariant.1 (is_read c) ∙ slot_len c.args.from.now c.requires.slots.0 ∙ sym (slot_len c.args.to.now c.requires.slots.1)

changes : (c : goal.After-put) (added : List Event) → Changes (λ k. k ≡ c.args.to.now) (λ k. k ≡ c.args.to.now) added (sure_state c.args.self.now) (sure_state c.put.new.held.items)
changes c added = subst (λ (l : List (Held (List ℕ))). Changes (λ k. k ≡ c.args.to.now) (λ k. k ≡ c.args.to.now) added (sure_state l) (sure_state c.put.new.held.items)) c.self.view_is
    (sure-changes c.self.inside.held.items c.put.new.held.items c.args.to.now c.copied-bytes.result (fits c) c.self.invariant.1 c.put.ensures.held added)

pub invariant_of-self : goal.invariant_of-self
invariant_of-self c = (
  c.self.invariant.0 ∙ sym c.put.ensures.cells,
  sure-lengths c.self.inside.held.items c.put.new.held.items c.args.to.now c.copied-bytes.result (fits c) c.self.invariant.1 c.put.ensures.held,
)

pub returns-in-Some-clause-begun : goal.returns-in-Some-clause-begun
returns-in-Some-clause-begun c = changes c (began (record { from = c.args.from.now; to = c.args.to.now }) ∷ [])

pub returns-in-Some-clause-copied : goal.returns-in-Some-clause-copied
returns-in-Some-clause-copied c = λ still. subst (λ (l : List (Held (List ℕ))). IsCopy (held_at l c.args.from.now) (held_at c.put.new.held.items c.args.to.now)) c.self.view_is
    (sure-copied c.self.inside.held.items c.put.new.held.items c.args.to.now c.copied-bytes.result (fits c) c.self.invariant.1 c.put.ensures.held c.args.from.now (is_read c))

pub returns-in-Some-clause-change : goal.returns-in-Some-clause-change
returns-in-Some-clause-change c = (1, changes c (began (record { from = c.args.from.now; to = c.args.to.now }) ∷ []))

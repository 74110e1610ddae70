use Rattle.mig_store.proofs.Common.{Changes, Held, IfSome, List, [], ap, held_at, length, subst, sure_state, sym, ℕ, ◌∙◌, ◌≡◌}
use Rattle.mig_store.proofs.SureSteps.{sure-lengths, sure-changes, sure-written}
use Rattle.mig_store.proofs.sure.SureStoreStore.write.Goals as goal

pub invariant_of-self : goal.invariant_of-self
invariant_of-self c = (
  c.self.invariant.0 ∙ sym c.put.ensures.cells,
  sure-lengths c.self.inside.held.items c.put.new.held.items c.args.cell.now c.of.result (ap (λ (l : List ℕ). length l) c.of.ensures ∙ c.requires.length) c.self.invariant.1 c.put.ensures.held,
)

pub returns-clause-written : goal.returns-clause-written
returns-clause-written c = subst (λ (b : List ℕ). IfSome (held_at c.put.new.held.items c.args.cell.now) (λ told. told ≡ b)) c.of.ensures
    (sure-written c.self.inside.held.items c.put.new.held.items c.args.cell.now c.of.result (ap (λ (l : List ℕ). length l) c.of.ensures ∙ c.requires.length) c.self.invariant.1 c.put.ensures.held)

pub returns-clause-change : goal.returns-clause-change
returns-clause-change c = subst (λ (l : List (Held (List ℕ))). Changes (λ k. k ≡ c.args.cell.now) (λ k. k ≡ c.args.cell.now) [] (sure_state l) (sure_state c.put.new.held.items)) c.self.view_is
    (sure-changes c.self.inside.held.items c.put.new.held.items c.args.cell.now c.of.result (ap (λ (l : List ℕ). length l) c.of.ensures ∙ c.requires.length) c.self.invariant.1 c.put.ensures.held [])

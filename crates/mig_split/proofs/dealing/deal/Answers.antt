use Rattle.mig_split.proofs.Common.{Dealt, IfOk-weaker, IsDealt, IsDealtBy, IsEnough, List, subst, sym, ℕ}
use Rattle.mig_split.proofs.Numbers.{few_enough, IsDealt-few}
use Rattle.mig_split.proofs.dealing.deal.Goals as goal

pub deal_by-requires-clause-enough : goal.deal_by-requires-clause-enough
deal_by-requires-clause-enough c =
    subst (λ (xs : List ℕ). IsEnough c.args.q c.args.stops.now xs) (sym c.deref.ensures.value)
    (few_enough c.args.q c.args.disks c.args.stops.now c.in_ok-numbers.numbers.items c.requires.q c.in_ok-numbers.ensures)

pub returns : goal.returns
returns c =
    let q = c.args.q in
    IfOk-weaker c.deal_by.result (λ (r : Dealt). IsDealtBy q c.deref.result.now c.args.stops.now r.homes.items r.copies.items) (λ (r : Dealt). IsDealt q c.args.disks c.args.stops.now r.homes.items r.copies.items)
    (λ r h. IsDealt-few q c.args.disks c.args.stops.now r.homes.items r.copies.items c.in_ok-numbers.numbers.items c.in_ok-numbers.ensures
    (subst (λ (xs : List ℕ). IsDealtBy q xs c.args.stops.now r.homes.items r.copies.items) c.deref.ensures.value h))
    c.deal_by.ensures

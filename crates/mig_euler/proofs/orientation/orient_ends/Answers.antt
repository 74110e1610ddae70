use Rattle.mig_euler.proofs.Common.{AllInRange, Balances, Bool, Global, IfOk-weaker, IsBalancedSoFar, List, None, Option, Vec, ap, arith, length, map, pair_transfer, points_forward, refl, replicate, rules}
use Rattle.mig_euler.proofs.Common.{subst, sym, take_at, ℕ, ◌∙◌, ◌≡◌}
use Rattle.mig_euler.proofs.OrientLaws.{ready_first, settled_balances}
use Rattle.mig_euler.proofs.LinkLaws.{passed_first}
use Rattle.mig_euler.proofs.orientation.orient_ends.Goals as goal

pub follow_odd-requires-clause-ready : goal.follow_odd-requires-clause-ready
follow_odd-requires-clause-ready c =
    let n = length c.args.ends.now in
    let first = c.link_ends.new.first in
    let a : c.in_ok-directions.directions.items ≡ replicate n None = search rules in
    let len : length first ≡ c.in_ok-from.from.len = omega (arith, c.in_ok-links.ensures.len, c.deref_mut.ensures.len) in
    let same : c.deref_mut-3.result.now ≡ first = c.deref_mut-3.ensures.value ∙ take_at first _ _ len in
    let disks : c.args.disks ≡ length first = omega (arith, len, c.in_ok-from.ensures.len) in
    let range : AllInRange c.args.ends.now (length first) = subst (λ m. AllInRange c.args.ends.now m) disks c.requires.in_range in
    subst (λ (d : List (Option Bool)). IsBalancedSoFar c.args.ends.now d c.deref_mut-3.result.now) (sym (c.deref_mut-2.ensures.value ∙ a))
    (subst (λ (f : List ℕ). IsBalancedSoFar c.args.ends.now (replicate n None) f) (sym same)
    (ready_first c.args.ends.now n first refl range (passed_first c.args.ends.now (replicate n None) first c.in_ok-links.ensures.first)))

pub returns-clause-balance : goal.returns-clause-balance
returns-clause-balance c =
    let same : c.deref-3.result.now ≡ c.follow_rest.new.directions = c.deref-3.ensures.value ∙ take_at c.follow_rest.new.directions _ _ (c.follow_rest.ensures.ready.len ∙ sym c.in_ok-directions.ensures.len) in
    IfOk-weaker c.settled.result (λ (v : Vec Bool Global). v.items ≡ map points_forward c.deref-3.result.now) (λ (v : Vec Bool Global). Balances (map pair_transfer c.args.ends.now) v.items)
    (λ v h. settled_balances c.args.ends.now c.follow_rest.new.directions v.items c.follow_rest.ensures.ready.even c.follow_rest.ensures.none c.follow_rest.ensures.ready.len (h ∙ ap (λ (d : List (Option Bool)). map points_forward d) same))
    c.settled.ensures

use Rattle.mig_board.proofs.Common.{Entries, IsFreeSet, List, arith, drop, refl, subst, sym, take, ℕ, ◌*◌, ◌+◌, ◌-◌, ◌<◌, ◌≡◌}
use Rattle.mig_board.proofs.FreeSets.{IsFreeSet-of}
use Rattle.mig_board.proofs.table.Table.free_words.Goals as goal

pub returns : goal.returns
returns c =
    let each : ℕ = c.words_for-each.result in
    let first : ℕ = c.args.node.0 * each in
    let same : first + each - first ≡ each = omega arith in
    let own : IsFreeSet c.args.self.now c.args.node (take each (drop first c.self.inside.free.items)) =
    subst (λ (t : Entries). IsFreeSet t c.args.node (take each (drop first c.self.inside.free.items))) c.self.view_is
    (IsFreeSet-of _ c.self.inside.free.items c.self.invariant c.args.node (subst (λ (t : Entries). c.args.node.0 < t.nodes) (sym c.self.view_is) c.requires) first each c.words_for-each.ensures refl) in
    subst (λ (n : ℕ). IsFreeSet c.args.self.now c.args.node (take n (drop first c.deref.result.now))) (sym same)
    (subst (λ (xs : List ℕ). IsFreeSet c.args.self.now c.args.node (take each (drop first xs))) (sym c.deref.ensures.value) own)

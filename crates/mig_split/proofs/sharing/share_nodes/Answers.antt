use Rattle.mig_split.proofs.Common.{All, AreCopyPairs, CopyId, IsShared, List, MAX_ITEMS, ap, arith, count_at, get_or_default, length, subst, sym, ℕ, ◌+◌, ◌-◌, ◌<◌, ◌∙◌, ◌≡◌, ◌≤◌}
use Rattle.mig_split.proofs.Shared.{AreNodes-all, AreParted-all, few_nodes}
use Rattle.mig_split.proofs.sharing.share_nodes.Goals as goal

-- nodes that stand for those of the second side fit their type
fits : (q : ℕ) (firsts seconds ins : List CopyId) (n m : ℕ) (outs : List CopyId) → 1 ≤ q → length firsts ≤ MAX_ITEMS → length seconds ≤ MAX_ITEMS → IsShared q firsts n outs → IsShared q seconds m ins → (n + m < 4294967296) × All (λ c. n + c.0 < 4294967296) ins
fits q firsts seconds ins n m outs some few few' o i =
    let small : n + m < 4294967296 = omega (arith, few, few', few_nodes n q (length firsts) some o.room, few_nodes m q (length seconds) some i.room) in
    (small, λ k d h. subst (λ (c : CopyId). n + c.0 < 4294967296) (get_or_default ins k (record { 0 = 0 }) d h) (omega (arith, small, i.there k (omega (arith, h, i.one_each)))))

pub share-requires-clause-most : goal.share-requires-clause-most
share-requires-clause-most c =
    let s = c.args.sides.now in
    let firsts = c.in_ok-firsts.firsts.items in
    let seconds = c.in_ok-firsts.seconds.items in
    let pairs : AreCopyPairs firsts seconds s.left s.ends.items = subst (λ x. AreCopyPairs firsts seconds s.left x) c.deref.ensures.value c.in_ok-firsts.ensures.pairs in
    let parted = AreParted-all c.args.q s.left s.nodes s.ends.items firsts seconds c.requires.left c.requires.sides c.requires.most (omega (arith, c.in_ok-firsts.ensures.same)) pairs in
    subst (λ (x : List CopyId). (k : ℕ) → k < s.left → count_at k x ≤ c.args.q) (sym c.deref-2.ensures.value) parted.firsts_most

pub share-requires-2-clause-there : goal.share-requires-2-clause-there
share-requires-2-clause-there c =
    let s = c.args.sides.now in
    let firsts = c.in_ok-firsts.firsts.items in
    let seconds = c.in_ok-firsts.seconds.items in
    let pairs : AreCopyPairs firsts seconds s.left s.ends.items = subst (λ x. AreCopyPairs firsts seconds s.left x) c.deref.ensures.value c.in_ok-firsts.ensures.pairs in
    let parted = AreParted-all c.args.q s.left s.nodes s.ends.items firsts seconds c.requires.left c.requires.sides c.requires.most (omega (arith, c.in_ok-firsts.ensures.same)) pairs in
    subst (λ (x : List CopyId). All (λ (k : CopyId). k.0 < s.nodes - s.left) x) (sym c.deref-3.ensures.value) parted.seconds_there

pub share-requires-2-clause-most : goal.share-requires-2-clause-most
share-requires-2-clause-most c =
    let s = c.args.sides.now in
    let firsts = c.in_ok-firsts.firsts.items in
    let seconds = c.in_ok-firsts.seconds.items in
    let pairs : AreCopyPairs firsts seconds s.left s.ends.items = subst (λ x. AreCopyPairs firsts seconds s.left x) c.deref.ensures.value c.in_ok-firsts.ensures.pairs in
    let parted = AreParted-all c.args.q s.left s.nodes s.ends.items firsts seconds c.requires.left c.requires.sides c.requires.most (omega (arith, c.in_ok-firsts.ensures.same)) pairs in
    subst (λ (x : List CopyId). (k : ℕ) → k < s.nodes - s.left → count_at k x ≤ c.args.q) (sym c.deref-3.ensures.value) parted.seconds_most

pub pair_up-requires-clause-fits : goal.pair_up-requires-clause-fits
pair_up-requires-clause-fits c =
    let firsts = c.in_ok-firsts.firsts.items in
    let seconds = c.in_ok-firsts.seconds.items in
    let long : length firsts ≡ length c.args.sides.now.ends.items = sym c.in_ok-firsts.ensures.pairs.len ∙ ap (λ x. length x) c.deref.ensures.value in
    subst (λ (x : List CopyId). All (λ (k : CopyId). c.in_ok-out.out.nodes + k.0 < 4294967296) x) (sym c.deref-5.ensures.value)
    (fits c.args.q firsts seconds c.in_ok-enter.enter.stops.items c.in_ok-out.out.nodes c.in_ok-enter.enter.nodes c.in_ok-out.out.stops.items c.requires.q
    (omega (arith, long, c.requires.few)) (omega (arith, long, c.requires.few, c.in_ok-firsts.ensures.same))
    (subst (λ (x : List CopyId). IsShared c.args.q x c.in_ok-out.out.nodes c.in_ok-out.out.stops.items) c.deref-2.ensures.value c.in_ok-out.ensures)
    (subst (λ (x : List CopyId). IsShared c.args.q x c.in_ok-enter.enter.nodes c.in_ok-enter.enter.stops.items) c.deref-3.ensures.value c.in_ok-enter.ensures)).1

pub overflow_add-result : goal.overflow_add-result
overflow_add-result c =
    let firsts = c.in_ok-firsts.firsts.items in
    let seconds = c.in_ok-firsts.seconds.items in
    let long : length firsts ≡ length c.args.sides.now.ends.items = sym c.in_ok-firsts.ensures.pairs.len ∙ ap (λ x. length x) c.deref.ensures.value in
    omega (
      arith,
      (fits c.args.q firsts seconds c.in_ok-enter.enter.stops.items c.in_ok-out.out.nodes c.in_ok-enter.enter.nodes c.in_ok-out.out.stops.items c.requires.q
          (omega (arith, long, c.requires.few)) (omega (arith, long, c.requires.few, c.in_ok-firsts.ensures.same))
          (subst (λ (x : List CopyId). IsShared c.args.q x c.in_ok-out.out.nodes c.in_ok-out.out.stops.items) c.deref-2.ensures.value c.in_ok-out.ensures)
          (subst (λ (x : List CopyId). IsShared c.args.q x c.in_ok-enter.enter.nodes c.in_ok-enter.enter.stops.items) c.deref-3.ensures.value c.in_ok-enter.ensures)).0,
    )

pub returns : goal.returns
returns c =
    let q = c.args.q in
    let s = c.args.sides.now in
    let firsts = c.in_ok-firsts.firsts.items in
    let seconds = c.in_ok-firsts.seconds.items in
    let out = c.in_ok-out.out in
    let enter = c.in_ok-enter.enter in
    let new = c.in_ok-ends.ends.items in
    let pairs : AreCopyPairs firsts seconds s.left s.ends.items = subst (λ x. AreCopyPairs firsts seconds s.left x) c.deref.ensures.value c.in_ok-firsts.ensures.pairs in
    let outs : IsShared q firsts out.nodes out.stops.items = subst (λ (x : List CopyId). IsShared q x out.nodes out.stops.items) c.deref-2.ensures.value c.in_ok-out.ensures in
    let ins : IsShared q seconds enter.nodes enter.stops.items = subst (λ (x : List CopyId). IsShared q x enter.nodes enter.stops.items) c.deref-3.ensures.value c.in_ok-enter.ensures in
    let joined : AreCopyPairs out.stops.items enter.stops.items out.nodes new =
    subst (λ (x : List CopyId). AreCopyPairs x enter.stops.items out.nodes new) c.deref-4.ensures.value (subst (λ (x : List CopyId). AreCopyPairs c.deref-4.result.now x out.nodes new) c.deref-5.ensures.value c.in_ok-ends.ensures) in
    AreNodes-all q s.left s.nodes s.ends.items firsts seconds out.nodes enter.nodes out.stops.items enter.stops.items new c.requires.sides (omega (arith, c.in_ok-firsts.ensures.same)) pairs outs ins joined

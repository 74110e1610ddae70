use Rattle.mig_split.proofs.Common.{AreCopyPairs, AreHeads, AreSides, AreTails, CopyId, DiskId, IsDealt, List, ap, arith, length, subst, sym, ◌++◌, ◌∙◌, ◌≡◌}
use Rattle.mig_split.proofs.Halves.{AreSides-all}
use Rattle.mig_split.proofs.copies.split_sides.Goals as goal

pub returns-clause-sides : goal.returns-clause-sides
returns-clause-sides c =
    let q = c.args.q in
    let g = c.args.graph.now in
    let ds = c.args.directions.now in
    let o = c.in_ok-out.out in
    let i = c.in_ok-enter.enter in
    let ts = c.deref.result.now in
    let hs = c.deref-2.result.now in
    let ends = c.in_ok-ends.ends.items in
    let n : c.disks-disks.result ≡ length g.disks = c.disks-disks.ensures.disks in
    let left : c.len-left.result ≡ length o.homes.items = omega arith in
    let at : AreTails g.transfers ds ts = subst (λ (x : List DiskId). AreTails g.transfers ds x) (sym c.deref.ensures.value) c.in_ok-tails.ensures in
    let ah : AreHeads g.transfers ds hs = subst (λ (x : List DiskId). AreHeads g.transfers ds x) (sym c.deref-2.ensures.value) c.in_ok-heads.ensures in
    let out : IsDealt q (length g.disks) ts o.homes.items o.copies.items = subst (λ m. IsDealt q m ts o.homes.items o.copies.items) n c.in_ok-out.ensures in
    let enter : IsDealt q (length g.disks) hs i.homes.items i.copies.items = subst (λ m. IsDealt q m hs i.homes.items i.copies.items) n c.in_ok-enter.ensures in
    let pairs : AreCopyPairs o.copies.items i.copies.items (length o.homes.items) ends =
    subst (λ (x : List CopyId). AreCopyPairs x i.copies.items (length o.homes.items) ends) c.deref-3.ensures.value
    (subst (λ (x : List CopyId). AreCopyPairs c.deref-3.result.now x (length o.homes.items) ends) c.deref-4.ensures.value
    (subst (λ m. AreCopyPairs c.deref-3.result.now c.deref-4.result.now m ends) left c.in_ok-ends.ensures)) in
    let all = AreSides-all q g ds ts hs o.homes.items i.homes.items o.copies.items i.copies.items ends c.requires.directions at ah out enter pairs in
    let homes : c.extend_from_slice.new.self.items ≡ o.homes.items ++ i.homes.items = c.in_ok-extend_from_slice.ensures.items ∙ ap (λ (x : List DiskId). o.homes.items ++ x) c.deref-5.ensures.value in
    subst (λ m. AreSides q g ds m ends c.extend_from_slice.new.self.items) (sym left) (subst (λ (x : List DiskId). AreSides q g ds (length o.homes.items) ends x) (sym homes) all)

use Rattle.mig_split.proofs.Common.{AreCopies, AreFewCopies, AreJoined, Bool, Copies, DiskId, IfOk-weaker, List, ap, arith, false, get_or-replicate, is_forward, length, replicate, rules, subst, true}
use Rattle.mig_split.proofs.Common.{ℕ, ◌<◌, ◌∙◌, ◌≡◌}
use Rattle.mig_split.proofs.Halves.{AreCopies-all}
use Rattle.mig_split.proofs.copies.split_nodes.Goals as goal

pub returns-clause-copies : goal.returns-clause-copies
returns-clause-copies c =
    let q = c.args.q in
    let g = c.args.graph.now in
    let m = c.edges-edges.result in
    let ds = c.deref.result.now in
    let stops = c.in_ok-stops.stops.items in
    let numbers = c.in_ok-numbers.numbers.items in
    let is_m : m ≡ length g.transfers = c.edges-edges.ensures.edges in
    let all_true : ds ≡ replicate m true = c.deref.ensures.value ∙ search rules in
    let forward : (k : ℕ) → k < length g.transfers → is_forward ds k ≡ true = λ k h. ap (λ (xs : List Bool). is_forward xs k) all_true ∙ get_or-replicate m k true false (omega (arith, h, is_m)) in
    let few : AreFewCopies q (length g.disks) stops numbers =
    subst (λ n. AreFewCopies q n stops numbers) c.disks.ensures.disks (subst (λ (xs : List DiskId). AreFewCopies q c.disks.result xs numbers) c.deref-2.ensures.value c.in_ok-numbers.ensures) in
    IfOk-weaker c.join.result (λ (s : Copies). AreJoined q m c.deref-3.result.now c.deref-4.result.now s.ends.items s.homes.items) (λ (s : Copies). AreCopies q g s.ends.items s.homes.items)
    (λ s h. AreCopies-all q g ds stops s.homes.items numbers s.ends.items m is_m (search rules) c.edges-edges.ensures.valid.apart forward c.in_ok-stops.ensures few
    (subst (λ (xs : List ℕ). AreJoined q m xs stops s.ends.items s.homes.items) c.deref-3.ensures.value (subst (λ (xs : List DiskId). AreJoined q m c.deref-3.result.now xs s.ends.items s.homes.items) c.deref-4.ensures.value h)))
    c.join.ensures.joined

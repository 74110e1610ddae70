use Rattle.mig_split.proofs.Common.{All, AreJoined, AreShares, Copies, DiskId, IfOk-weaker, IsEnough, List, ap, arith, length, subst, sum, sym, ℕ, ◌<◌, ◌∙◌, ◌≡◌}
use Rattle.mig_split.proofs.Halves.{AreShares-all, shared_all, shared_sum, stops_len, stops_there}
use Rattle.mig_split.proofs.copies.split_limits.Goals as goal

pub join-requires-clause-few : goal.join-requires-clause-few
join-requires-clause-few c =
    let g = c.args.graph.now in
    let ds = c.args.directions.now in
    let valid = c.edges-edges.ensures.valid in
    let stops = c.in_ok-stops.stops.items in
    omega (
      arith,
      ap (λ (xs : List ℕ). sum xs) c.deref.ensures.value,
      shared_sum g ds c.args.share stops c.in_ok-numbers.numbers.items c.requires.some c.requires.directions valid.apart c.in_ok-stops.ensures c.in_ok-numbers.ensures,
      stops_len g.transfers ds stops c.in_ok-stops.ensures,
      valid.edges_most,
    )

pub join-requires-clause-there : goal.join-requires-clause-there
join-requires-clause-there c =
    let g = c.args.graph.now in
    let valid = c.edges-edges.ensures.valid in
    let len : length g.disks ≡ length c.deref.result.now = sym c.in_ok-numbers.ensures.len ∙ ap (λ (xs : List ℕ). length xs) (sym c.deref.ensures.value) in
    subst (λ (xs : List DiskId). All (λ d. d.0 < length c.deref.result.now) xs) (sym c.deref-2.ensures.value)
    (subst (λ n. All (λ d. d.0 < n) c.in_ok-stops.stops.items) len
    (stops_there g.transfers c.args.directions.now c.in_ok-stops.stops.items (length g.disks) c.in_ok-stops.ensures valid.leaves_there valid.reaches_there))

pub join-requires-clause-enough : goal.join-requires-clause-enough
join-requires-clause-enough c =
    let g = c.args.graph.now in
    let valid = c.edges-edges.ensures.valid in
    let q = c.quotient.result in
    subst (λ (xs : List DiskId). IsEnough q xs c.deref.result.now) (sym c.deref-2.ensures.value)
    (subst (λ (xs : List ℕ). IsEnough q c.in_ok-stops.stops.items xs) (sym c.deref.ensures.value)
    (shared_all g c.args.directions.now c.args.share q c.in_ok-stops.stops.items c.in_ok-numbers.numbers.items c.quotient.ensures c.requires.some (omega (arith, c.requires.most, c.quotient.ensures)) valid.disks_valid c.requires.directions valid.apart c.in_ok-stops.ensures c.in_ok-numbers.ensures))

pub returns-clause-copies : goal.returns-clause-copies
returns-clause-copies c =
    let g = c.args.graph.now in
    let ds = c.args.directions.now in
    let m = c.edges-edges.result in
    let q = c.quotient.result in
    let stops = c.in_ok-stops.stops.items in
    let numbers = c.in_ok-numbers.numbers.items in
    IfOk-weaker c.join.result (λ (s : Copies). AreJoined q m c.deref.result.now c.deref-2.result.now s.ends.items s.homes.items) (λ (s : Copies). AreShares g ds c.args.share s.ends.items s.homes.items)
    (λ s h. AreShares-all g ds c.args.share q m stops s.homes.items numbers s.ends.items c.quotient.ensures c.edges-edges.ensures.edges c.requires.some c.requires.directions c.edges-edges.ensures.valid.apart c.in_ok-stops.ensures c.in_ok-numbers.ensures
    (subst (λ (xs : List ℕ). AreJoined q m xs stops s.ends.items s.homes.items) c.deref.ensures.value (subst (λ (xs : List DiskId). AreJoined q m c.deref.result.now xs s.ends.items s.homes.items) c.deref-2.ensures.value h)))
    c.join.ensures.joined

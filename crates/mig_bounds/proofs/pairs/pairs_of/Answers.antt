use Rattle.mig_bounds.proofs.Common.{CountsPairs, List, Transfer, ap, arith, get_or, length, length-set, subst, sym, take, ℕ, ◌*◌, ◌+◌, ◌<◌, ◌∙◌, ◌≡◌, ◌≤◌}
use Rattle.mig_bounds.proofs.PairTables.{cell_within, cell_small, counted, next_small, CountsPairs-more, leaves_below, reaches_below}
use Rattle.mig_bounds.proofs.pairs.pairs_of.Goals as goal
use Rattle.mig_bounds.proofs.pairs.pairs_of.Goals.{After-ends}

-- the disks of an edge
ends : (c : After-ends) → (c.ends.result.0.0 < c.disks-count.result) × (c.ends.result.1.0 < c.disks-count.result)
ends c =
    let g = c.args.graph.now in
    let t : Transfer = record { leaves = c.ends.result.0.0; reaches = c.ends.result.1.0 } in
    let valid = c.disks-count.ensures.valid in
    let n = c.disks-count.ensures.disks in
    let from = leaves_below (length g.disks) g.transfers c.loop-edge.edge t valid.leaves_there c.ends.ensures.ends in
    let to = reaches_below (length g.disks) g.transfers c.loop-edge.edge t valid.reaches_there c.ends.ensures.ends in
    (omega (arith, n, from), omega (arith, n, to))

-- the table counts the edges before this one
before : (c : After-ends) → CountsPairs c.disks-count.result (take c.loop-edge.edge c.args.graph.now.transfers) c.loop-edge.pairs.items
before c = subst (λ k. CountsPairs k (take c.loop-edge.edge c.args.graph.now.transfers) c.loop-edge.pairs.items) (sym c.disks-count.ensures.disks) c.loop-edge.invariant

-- each cell of two disks is there, and has counted the edges before this one at most
cell : (c : After-ends) → (a b : ℕ) → a < c.disks-count.result → b < c.disks-count.result
    → (a * c.disks-count.result + b < length c.loop-edge.pairs.items) × (get_or c.loop-edge.pairs.items (a * c.disks-count.result + b) 0 ≤ c.loop-edge.edge) × (c.loop-edge.edge < length c.args.graph.now.transfers)
cell c a b ha hb =
    let n = c.disks-count.result in
    let low : c.loop-edge.edge < length c.args.graph.now.transfers = omega (arith, c.edges-edge-end.ensures.edges, c.loop-edge-test.true) in
    (omega (arith, cell_within n a b ha hb, (before c).len), cell_small n c.args.graph.now.transfers c.loop-edge.pairs.items c.loop-edge.edge a b (omega (arith, low)) ha hb (before c), low)

pub count_one-requires : goal.count_one-requires
count_one-requires c =
    let at = (goal.at.count_one-requires c).After-ends in
    let there = cell at c.ends.result.0.0 c.ends.result.1.0 (ends at).0 (ends at).1 in
    record { there = there.0; few = omega (arith, there.1, there.2, c.disks-count.ensures.valid.edges_most) }

-- also where a cell is the one that has just counted
pub count_one-requires-in-loop-edge : goal.count_one-requires-in-loop-edge
count_one-requires-in-loop-edge c =
    let at = (goal.at.count_one-requires-in-loop-edge c).After-ends in
    let n = c.disks-count.result in
    let pairs = c.loop-edge.pairs.items in
    let there = c.ends.result.0.0 * n + c.ends.result.1.0 in
    let back = c.ends.result.1.0 * n + c.ends.result.0.0 in
    let x = cell at c.ends.result.0.0 c.ends.result.1.0 (ends at).0 (ends at).1 in
    let y = cell at c.ends.result.1.0 c.ends.result.0.0 (ends at).1 (ends at).0 in
    let long : length c.count_one.new.pairs.items ≡ length pairs = ap (λ (xs : List ℕ). length xs) c.count_one.ensures ∙ length-set pairs there (get_or pairs there 0 + 1) in
    let small : (k : ℕ) → get_or c.count_one.new.pairs.items k 0 ≤ get_or pairs k 0 + 1 = λ k. subst (λ (xs : List ℕ). get_or xs k 0 ≤ get_or pairs k 0 + 1) (sym c.count_one.ensures) (next_small pairs there k x.0) in
    record { there = omega (arith, x.0, y.0, long); few = omega (arith, small there, small back, x.1, y.1, y.2, c.disks-count.ensures.valid.edges_most) }

pub loop-edge-preserved : goal.loop-edge-preserved
loop-edge-preserved c =
    let at = (goal.at.loop-edge-preserved c).After-ends in
    let g = c.args.graph.now in
    let n = c.disks-count.result in
    let t : Transfer = record { leaves = c.ends.result.0.0; reaches = c.ends.result.1.0 } in
    let there = t.leaves * n + t.reaches in
    let back = t.reaches * n + t.leaves in
    let both = c.count_one-in-loop-edge.ensures ∙ ap (λ (xs : List ℕ). counted xs back) c.count_one.ensures in
    rw both (subst (λ x. CountsPairs x (take (c.loop-edge.edge + 1) g.transfers) (counted (counted c.loop-edge.pairs.items there) back)) c.disks-count.ensures.disks
    (CountsPairs-more n g.transfers c.loop-edge.pairs.items c.loop-edge.edge t c.ends.ensures.ends (ends at).0 (ends at).1 c.ends.ensures.apart (before at)))

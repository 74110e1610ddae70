use Rattle.mig_bounds.proofs.Common.{Transfer, ap, arith, get_or, get_or_default, length, length-take-le, take, ◌+◌, ◌<◌, ◌∙◌, ◌≡◌, ◌≤◌}
use Rattle.mig_bounds.proofs.ComponentCounts.{AreInsides-more, inside_small}
use Rattle.mig_bounds.proofs.PairTables.{leaves_below}
use Rattle.mig_bounds.proofs.components.insides_of.Goals as goal

pub overflow_add-index_mut : goal.overflow_add-index_mut
overflow_add-index_mut c =
    let g = c.args.graph.now in
    let labels = c.args.labels.now in
    let insides = c.loop-edge.insides.items in
    let t : Transfer = record { leaves = c.ends.result.0.0; reaches = c.ends.result.1.0 } in
    let valid = c.requires.valid in
    let r = get_or labels t.leaves 0 in
    let t_there : t.leaves < length labels = omega (arith, c.requires.labelling.len, leaves_below (length g.disks) g.transfers c.loop-edge.edge t valid.leaves_there c.ends.ensures.ends) in
    let r_there : r < length labels = omega (arith, c.requires.labelling.least t.leaves t_there, t_there) in
    let old : c.index_mut.result.now ≡ get_or insides r 0 = c.index_mut.ensures.value ∙ get_or_default insides r c.index_mut.result.now 0 (omega (arith, r_there, c.loop-edge.invariant.len)) in
    let edge : c.loop-edge.edge ≤ length g.transfers = omega (arith, c.loop-edge-test.true, c.edges-edge-end.ensures.edges) in
    omega (arith, old, inside_small labels insides (take c.loop-edge.edge g.transfers) r r_there c.loop-edge.invariant, length-take-le c.loop-edge.edge g.transfers edge, edge, valid.edges_most)

pub loop-edge-preserved : goal.loop-edge-preserved
loop-edge-preserved c =
    let g = c.args.graph.now in
    let labels = c.args.labels.now in
    let insides = c.loop-edge.insides.items in
    let t : Transfer = record { leaves = c.ends.result.0.0; reaches = c.ends.result.1.0 } in
    let valid = c.requires.valid in
    let r = get_or labels t.leaves 0 in
    let t_there : t.leaves < length labels = omega (arith, c.requires.labelling.len, leaves_below (length g.disks) g.transfers c.loop-edge.edge t valid.leaves_there c.ends.ensures.ends) in
    let r_there : r < length labels = omega (arith, c.requires.labelling.least t.leaves t_there, t_there) in
    let old : c.index_mut.result.now ≡ get_or insides r 0 = c.index_mut.ensures.value ∙ get_or_default insides r c.index_mut.result.now 0 (omega (arith, r_there, c.loop-edge.invariant.len)) in
    AreInsides-more labels insides g.transfers c.loop-edge.edge (c.index_mut.result.now + 1) t c.ends.ensures.ends r_there (ap (λ n. n + 1) old) c.loop-edge.invariant

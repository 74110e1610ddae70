use Rattle.mig_graph.proofs.Common.{Edge, ap, arith, edge_transfer, end_on, get_or, get_or_default, ℕ, ◌+◌, ◌<◌, ◌∙◌, ◌≡◌}
use Rattle.mig_graph.proofs.Made.{AreLoads-more, end_there, load_small}
use Rattle.mig_graph.proofs.loads.loads_of.Goals as goal

abbrev no_edge : Edge
no_edge = record { item = record { 0 = 0 }; from = record { 0 = 0 }; to = record { 0 = 0 } }

pub overflow_add-index_mut : goal.overflow_add-index_mut
overflow_add-index_mut c =
    let i = c.loop-edge.edge-index in
    let a = c.end_of-disk.result.0 in
    let before = c.loop-edge.invariant in
    let is = c.end_of-disk.ensures ∙ ap (λ (e : Edge). end_on c.args.side (edge_transfer e)) (get_or_default c.args.edges.now i _ no_edge c.loop-edge-test.true) in
    let there : a < c.args.disks = end_there c.args.side (get_or c.args.edges.now i no_edge) a c.args.disks is (c.requires.from i no_edge c.loop-edge-test.true) (c.requires.to i no_edge c.loop-edge-test.true) in
    omega (
      arith,
      c.index_mut.ensures.value,
      get_or_default c.loop-edge.loads.items a c.index_mut.result.now 0 (omega (arith, there, before.len)),
      load_small c.args.side c.args.disks c.args.edges.now c.loop-edge.loads.items i a (omega (arith, c.loop-edge-test.true)) there before,
      c.loop-edge-test.true,
      c.requires.few,
    )

pub loop-edge-preserved : goal.loop-edge-preserved
loop-edge-preserved c =
    let i = c.loop-edge.edge-index in
    let a = c.end_of-disk.result.0 in
    let before = c.loop-edge.invariant in
    let is = c.end_of-disk.ensures ∙ ap (λ (e : Edge). end_on c.args.side (edge_transfer e)) (get_or_default c.args.edges.now i _ no_edge c.loop-edge-test.true) in
    let there : a < c.args.disks = end_there c.args.side (get_or c.args.edges.now i no_edge) a c.args.disks is (c.requires.from i no_edge c.loop-edge-test.true) (c.requires.to i no_edge c.loop-edge-test.true) in
    let more : c.index_mut.result.now + 1 ≡ get_or c.loop-edge.loads.items a 0 + 1 = ap (λ (k : ℕ). k + 1) (c.index_mut.ensures.value ∙ get_or_default c.loop-edge.loads.items a c.index_mut.result.now 0 (omega (arith, there, before.len))) in
    AreLoads-more c.args.side c.args.disks c.args.edges.now c.loop-edge.loads.items i a (c.index_mut.result.now + 1) no_edge c.loop-edge-test.true is there more before

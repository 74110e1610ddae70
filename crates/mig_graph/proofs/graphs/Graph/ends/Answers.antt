use Rattle.mig_graph.proofs.Common.{Edge, Transfers, Transfer, ap, arith, edge_transfer, length, length-map, subst, sym, ◌≢◌}
use Rattle.mig_graph.proofs.Made.{All-unmap}
use Rattle.mig_graph.proofs.graphs.Graph.ends.Goals as goal

pub returns-clause-apart : goal.returns-clause-apart
returns-clause-apart c =
    let edges = c.self.inside.edges.items in
    let there = ap (λ (t : Transfers). length t.transfers) c.self.view_is in
    let apart = All-unmap (λ (t : Transfer). t.leaves ≢ t.reaches) edge_transfer edges c.self.invariant.graph.apart in
    subst (λ (e : Edge). e.from.0 ≢ e.to.0) (sym c.index-e.ensures) (apart c.args.edge.0 c.index-e.result.now (omega (arith, c.requires, there, length-map edges edge_transfer)))

use Rattle.mig_graph.proofs.Common.{Incoming, MAX_ITEMS, Transfers, ap, arith, length, subst, sym, transfers_of, ◌≤◌}
use Rattle.mig_graph.proofs.Made.{few_loads}
use Rattle.mig_graph.proofs.graphs.Graph.in_load.Goals as goal

pub returns-clause-most : goal.returns-clause-most
returns-clause-most c =
    let g = c.self.inside in
    let few = few_loads Incoming g.disks.items (transfers_of g).transfers g.incoming.items c.self.invariant.graph.edges_most c.self.invariant.incoming in
    subst (λ n. n ≤ MAX_ITEMS) (sym c.index.ensures) (few.most c.args.disk.0 c.index.result.now (omega (arith, c.requires, ap (λ (t : Transfers). length t.disks) c.self.view_is, few.len)))

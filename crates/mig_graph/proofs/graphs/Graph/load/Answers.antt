use Rattle.mig_graph.proofs.Common.{Transfers, ap, arith, length, load, ◌∙◌}
use Rattle.mig_graph.proofs.Made.{both_loads, load_few}
use Rattle.mig_graph.proofs.graphs.Graph.load.Goals as goal

pub overflow_add-result : goal.overflow_add-result
overflow_add-result c =
    let there = ap (λ (t : Transfers). length t.disks) c.self.view_is in
    omega (arith, both_loads c.self.inside c.args.disk.0 _ _ c.self.invariant (omega (arith, c.requires, there)) c.index.ensures c.index-2.ensures, load_few c.self.inside c.args.disk.0 c.self.invariant)

pub returns-clause-load : goal.returns-clause-load
returns-clause-load c =
    let there = ap (λ (t : Transfers). length t.disks) c.self.view_is in
    both_loads c.self.inside c.args.disk.0 _ _ c.self.invariant (omega (arith, c.requires, there)) c.index.ensures c.index-2.ensures ∙ ap (λ (t : Transfers). load c.args.disk.0 t.transfers) c.self.view_is

pub returns-clause-most : goal.returns-clause-most
returns-clause-most c =
    let there = ap (λ (t : Transfers). length t.disks) c.self.view_is in
    omega (arith, both_loads c.self.inside c.args.disk.0 _ _ c.self.invariant (omega (arith, c.requires, there)) c.index.ensures c.index-2.ensures, load_few c.self.inside c.args.disk.0 c.self.invariant)

use Rattle.mig_plan.proofs.Common.{arith}
use Rattle.mig_duplex.proofs.Quotients.{has_ranges, quotient_most, quotient_some}
use Rattle.mig_plan.proofs.colourings.colour_moves.Goals as goal

pub overflow_mul-most : goal.overflow_mul-most
overflow_mul-most c =
    let valid = c.edges.ensures.valid in
    omega (arith, quotient_most c.args.graph.now (has_ranges c.args.graph.now valid), valid.edges_most, c.quotient-q.ensures)

-- the quotient is 1 at least, and at most the number of edges
pub colour_directed-requires-clause-some : goal.colour_directed-requires-clause-some
colour_directed-requires-clause-some c =
    let graph = c.args.graph.now in
    let valid = c.edges.ensures.valid in
    omega (arith, c.quotient-q.ensures, quotient_some graph (has_ranges graph valid) valid.leaves_there (omega (arith, c.edges.ensures.edges, c.if-edges-eq0.false)))

pub colour_directed-requires-clause-few : goal.colour_directed-requires-clause-few
colour_directed-requires-clause-few c =
    let graph = c.args.graph.now in
    omega (arith, c.quotient-q.ensures, quotient_most graph (has_ranges graph c.edges.ensures.valid))

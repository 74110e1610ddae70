use Rattle.mig_bounds.proofs.Common.{List, [], arith, count_by-le-length, is_inside, ℕ, ◌∷◌}
use Rattle.mig_bounds.proofs.Steps.{inside_three_is}
use Rattle.mig_bounds.proofs.triples.inside_three.Goals as goal

pub returns-clause-inside : goal.returns-clause-inside
returns-clause-inside c =
    let g = c.args.graph.now in
    omega (arith, c.pair.ensures.count, c.pair-2.ensures.count, c.pair-3.ensures.count, inside_three_is c.args.a c.args.b c.args.c g.transfers c.requires.order_ab c.requires.order_bc c.pair.ensures.valid.apart)

pub returns-clause-most : goal.returns-clause-most
returns-clause-most c =
    let g = c.args.graph.now in
    let set : List ℕ = c.args.a ∷ c.args.b ∷ c.args.c ∷ [] in
    omega (arith, c.pair.ensures.count, c.pair-2.ensures.count, c.pair-3.ensures.count, inside_three_is c.args.a c.args.b c.args.c g.transfers c.requires.order_ab c.requires.order_bc c.pair.ensures.valid.apart, count_by-le-length (is_inside set) g.transfers, c.pair.ensures.valid.edges_most)

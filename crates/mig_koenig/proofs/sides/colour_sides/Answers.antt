use Rattle.mig_koenig.proofs.Common.{Colouring, IsSplitAt, arith, subst, sym}
use Rattle.mig_koenig.proofs.sides.colour_sides.Goals as goal

pub colour_edge-requires-clause-plain : goal.colour_edge-requires-clause-plain
colour_edge-requires-clause-plain c =
    c.loop-edge.invariant.rest (record { 0 = c.loop-edge.edge }) (omega arith) (omega (arith, c.loop-edge-test.true, c.edges-edge-end.ensures.value))

pub colour_edge-requires-clause-sides : goal.colour_edge-requires-clause-sides
colour_edge-requires-clause-sides c = subst (λ (g : Colouring). IsSplitAt g c.args.left) (sym c.loop-edge.invariant.graph) c.requires.sides

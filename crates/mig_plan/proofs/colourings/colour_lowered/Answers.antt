use Rattle.mig_plan.proofs.Common.{Bool, List, SidesFit, arith, subst, sym}
use Rattle.mig_plan.proofs.LoweredLimits.{lowered_fits, lowered_most, lowered_some}
use Rattle.mig_plan.proofs.colourings.colour_lowered.Goals as goal

pub colour_directed-requires-clause-some : goal.colour_directed-requires-clause-some
colour_directed-requires-clause-some c =
    let graph = c.args.graph.now in
    omega (arith, c.requires.quotient, lowered_some graph c.requires.lowerable c.keeps_rules.ensures.leaves_there (omega (arith, c.edges.ensures.edges, c.if-edges-eq0.false)))

pub colour_directed-requires-clause-few : goal.colour_directed-requires-clause-few
colour_directed-requires-clause-few c = omega (arith, c.requires.quotient, lowered_most c.args.graph.now c.requires.lowerable)

pub colour_directed-requires-clause-fit : goal.colour_directed-requires-clause-fit
colour_directed-requires-clause-fit c =
    let graph = c.args.graph.now in
    let valid = c.keeps_rules.ensures in
    let some = lowered_some graph c.requires.lowerable valid.leaves_there (omega (arith, c.edges.ensures.edges, c.if-edges-eq0.false)) in
    let e = c.in_ok-directions.ensures in
    subst (λ (ds : List Bool). SidesFit graph c.args.q ds) (sym c.deref.ensures.value)
    (lowered_fits graph c.args.q c.in_ok-directions.directions.items c.requires.quotient (omega (arith, c.requires.quotient, some)) c.requires.lowerable (omega (arith, e.one_each)) valid.apart e.balance)

use Rattle.mig_plan.proofs.Common.{Colour, Global, IfOk-weaker, IsLimited, IsSpread, Vec}
use Rattle.mig_plan.proofs.Limits.{spread_joint}
use Rattle.mig_plan.proofs.colourings.colour_directed.Goals as goal

pub returns : goal.returns
returns c =
    let graph = c.args.graph.now in
    let q = c.args.q in
    let ds = c.args.directions.now in
    IfOk-weaker c.colour_spread.result (λ (v : Vec Colour Global). IsSpread graph q ds v.items) (λ (v : Vec Colour Global). IsLimited graph q v.items)
    (λ v h. spread_joint graph q ds v.items c.keeps_rules.ensures c.requires.joint c.requires.fit h) c.colour_spread.ensures

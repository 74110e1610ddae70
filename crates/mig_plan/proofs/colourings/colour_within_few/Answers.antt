use Rattle.mig_plan.proofs.Limits.{dealt_limited}
use Rattle.mig_plan.proofs.colourings.colour_within_few.Goals as goal

pub returns : goal.returns
returns c =
    dealt_limited c.args.graph.now c.args.colours c.in_ok-board.board c.colour_within.new.board c.in_ok-colours_of.field-0.items c.keeps_rules.ensures c.requires.joint c.in_ok-board.ensures c.colour_within.ensures.grows.graph c.colour_within.ensures.proper c.in_ok-colours_of.ensures

use Rattle.mig_plan.proofs.Common.{AreColours, Colour, Colouring, Global, IfOk-weaker, IsLimited, Vec, degree_of, subst, sym, ◌<◌, ◌≤◌}
use Rattle.mig_duplex.proofs.Spread.{blank_plain}
use Rattle.mig_plan.proofs.Limits.{dealt_limited}
use Rattle.mig_plan.proofs.colourings.colour_surely.Goals as goal

pub colour_few-requires-clause-blank : goal.colour_few-requires-clause-blank
colour_few-requires-clause-blank c = λ e h. blank_plain c.in_ok-board.board _ _ _ c.in_ok-board.ensures.made e h

pub colour_few-requires-clause-few : goal.colour_few-requires-clause-few
colour_few-requires-clause-few c = λ v h.
    (let b = c.in_ok-board.ensures in
    subst (λ q. degree_of c.in_ok-board.board v ≤ q) (sym c.quotient-q.ensures)
    (b.copies.most v (subst (λ (g : Colouring). v.0 < g.nodes) b.made h)))

pub returns : goal.returns
returns c =
    let new = c.colour_few.new.board in
    IfOk-weaker c.colours_of.result (λ (v : Vec Colour Global). AreColours new v.items) (λ (v : Vec Colour Global). IsLimited c.args.graph.now c.args.colours v.items)
    (λ v h. dealt_limited c.args.graph.now c.args.colours c.in_ok-board.board new v.items c.keeps_rules.ensures c.requires.joint c.in_ok-board.ensures c.colour_few.ensures.graph c.colour_few.ensures.proper h)
    c.colours_of.ensures

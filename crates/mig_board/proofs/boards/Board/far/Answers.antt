use Rattle.mig_board.proofs.Common.{Colouring, IsProper, ap, arith, subst}
use Rattle.mig_board.proofs.Walks.{underway_at, underway_next, underway_start, underway_more, underway_end, underway_short}
use Rattle.mig_board.proofs.boards.Board.far.Goals as goal

pub edge_at-requires-clause-node : goal.edge_at-requires-clause-node
edge_at-requires-clause-node c = underway_at _ (subst IsProper c.self.view_is c.self.invariant.proper) _ _ _ c.requires.has _ _ _ _ c.loop-step.invariant

pub edge_at-requires-clause-colour : goal.edge_at-requires-clause-colour
edge_at-requires-clause-colour c = (underway_next _ (subst IsProper c.self.view_is c.self.invariant.proper) _ _ _ c.requires.lacks c.requires.has _ _ _ _ c.loop-step.invariant).0

pub loop-step-init : goal.loop-step-init
loop-step-init c = underway_start _ _ _ _

pub loop-step-preserved : goal.loop-step-preserved
loop-step-preserved c =
    underway_more _ _ _ _ _ _ _ _ c.loop-step.invariant c.in-Some.edge c.across-at.result
    (record { joins = c.across-at.ensures.joins; colour = c.in-Some.ensures.1.colour })

pub returns-in_default : goal.returns-in_default
returns-in_default c =
    underway_end _ (subst IsProper c.self.view_is c.self.invariant.proper) _ _ _ c.requires.lacks c.requires.has _ _ _ _ c.loop-step.invariant c.in_default.ensures

pub unreachable-requires : goal.unreachable-requires
unreachable-requires c =
    let short = underway_short _ (subst IsProper c.self.view_is c.self.invariant.proper) _ _ _ c.requires.lacks c.requires.has _ _ _ _ c.loop-step.invariant in
    let nodes = ap (λ (g : Colouring). g.nodes) c.self.view_is in
    omega (arith, short, nodes, c.nodes-step-end.ensures, c.loop-step-test.false)

use Rattle.mig_board.proofs.Common.{CopyId, inl, inr, subst, ◌<◌}
use Rattle.mig_board.proofs.BoardFacts.{ends_in_range, joins_within}
use Rattle.mig_board.proofs.boards.Board.across.Goals as goal

pub returns-clause-node : goal.returns-clause-node
returns-clause-node c =
    let r = ends_in_range c.self.inside c.self.invariant _ c.self.view_is c.args.edge (joins_within c.args.self.now c.args.edge c.args.node c.requires.0 c.requires.1) _ c.index.ensures in
    elim c.other_of.ensures [
      | inl h ↦ subst (λ (q : CopyId × CopyId). q.1.0 < c.args.self.now.nodes) h r.1
      | inr h ↦ subst (λ (q : CopyId × CopyId). q.0.0 < c.args.self.now.nodes) h r.0
    ]

use Rattle.mig_board.proofs.BoardFacts.{ends_in_range}
use Rattle.mig_board.proofs.boards.Board.ends.Goals as goal

pub returns-clause-first : goal.returns-clause-first
returns-clause-first c = (ends_in_range c.self.inside c.self.invariant _ c.self.view_is c.args.edge c.requires _ c.index.ensures).0

pub returns-clause-second : goal.returns-clause-second
returns-clause-second c = (ends_in_range c.self.inside c.self.invariant _ c.self.view_is c.args.edge c.requires _ c.index.ensures).1

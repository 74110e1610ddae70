use Rattle.mig_board.proofs.BoardFacts.{edge_found}
use Rattle.mig_board.proofs.boards.Board.edge_at.Goals as goal

pub returns : goal.returns
returns c = edge_found c.self.inside c.self.invariant _ c.self.view_is _ _ c.requires.node c.requires.colour _ c.edge_at.ensures

use Rattle.mig_board.proofs.BoardFacts.{tells_free, free_words_of}
use Rattle.mig_board.proofs.boards.Board.free_words.Goals as goal

pub returns : goal.returns
returns c = free_words_of _ _ _ (tells_free c.self.inside c.self.invariant _ c.self.view_is _ c.requires _ c.free_words.ensures)

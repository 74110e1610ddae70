use Rattle.mig_board.proofs.BoardFacts.{tells_free, least_common, no_common_free}
use Rattle.mig_board.proofs.boards.Board.common.Goals as goal

pub first_common_bit-requires-clause-short : goal.first_common_bit-requires-clause-short
first_common_bit-requires-clause-short c = (tells_free c.self.inside c.self.invariant _ c.self.view_is _ c.requires.first _ c.free_words-one.ensures).short

pub returns-in_err-colour : goal.returns-in_err-colour
returns-in_err-colour c =
    let one = tells_free c.self.inside c.self.invariant _ c.self.view_is _ c.requires.first _ c.free_words-one.ensures in
    let two = tells_free c.self.inside c.self.invariant _ c.self.view_is _ c.requires.second _ c.free_words-two.ensures in
    rw c.from_residual.ensures (no_common_free _ _ _ _ _ one two c.in_err-colour.ensures)

pub returns : goal.returns
returns c =
    let one = tells_free c.self.inside c.self.invariant _ c.self.view_is _ c.requires.first _ c.free_words-one.ensures in
    let two = tells_free c.self.inside c.self.invariant _ c.self.view_is _ c.requires.second _ c.free_words-two.ensures in
    least_common _ _ _ _ _ one two _ c.in_ok-colour.ensures

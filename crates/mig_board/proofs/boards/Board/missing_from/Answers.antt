use Rattle.mig_board.proofs.BoardFacts.{tells_free, least_missing_from, full_from}
use Rattle.mig_board.proofs.boards.Board.missing_from.Goals as goal

pub first_bit-requires : goal.first_bit-requires
first_bit-requires c = (tells_free c.self.inside c.self.invariant _ c.self.view_is _ c.requires _ c.free_words.ensures).short

pub returns-in_err-colour : goal.returns-in_err-colour
returns-in_err-colour c =
    let t = tells_free c.self.inside c.self.invariant _ c.self.view_is _ c.requires _ c.free_words.ensures in
    rw c.from_residual.ensures (full_from _ _ _ t _ c.in_err-colour.ensures)

pub returns : goal.returns
returns c =
    let t = tells_free c.self.inside c.self.invariant _ c.self.view_is _ c.requires _ c.free_words.ensures in
    least_missing_from _ _ _ t _ _ c.in_ok-colour.ensures

use Rattle.mig_board.proofs.Common.{rules}
use Rattle.mig_board.proofs.boards.Board.missing.Goals as goal

pub returns : goal.returns
returns c = search rules

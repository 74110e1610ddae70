use Rattle.mig_board.proofs.Common.{◌*◌}
use Rattle.mig_board.proofs.Bits.{HasNoBitBelow}
use Rattle.mig_board.proofs.words.first_bit.Given as goal

abbrev pub invariant-loop-at : goal.invariant-loop-at
invariant-loop-at l = HasNoBitBelow l.words l.fn.from (l.at * 64)

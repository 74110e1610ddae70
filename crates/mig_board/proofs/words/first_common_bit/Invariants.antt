use Rattle.mig_board.proofs.Common.{◌*◌}
use Rattle.mig_board.proofs.Bits.{HasNoCommonBelow}
use Rattle.mig_board.proofs.words.first_common_bit.Given as goal

abbrev pub invariant-loop-at : goal.invariant-loop-at
invariant-loop-at l = HasNoCommonBelow l.one l.two (l.at * 64)

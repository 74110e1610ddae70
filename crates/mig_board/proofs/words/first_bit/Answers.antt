use Rattle.mig_board.proofs.Bits.{first_in_word}
use Rattle.mig_board.proofs.words.first_bit.Goals as goal

pub returns-then-rest-ne0 : goal.returns-then-rest-ne0
returns-then-rest-ne0 c =
    first_in_word _ _ _ _ c.loop-at.invariant c.bits_from-rest.ensures c.if-rest-ne0.true c.bits_from-rest.type_inv

use Rattle.mig_board.proofs.Common.{and_le_l, arith, false, get_or, one, true}
use Rattle.mig_board.proofs.Bits.{common_in_word, common_more}
use Rattle.mig_board.proofs.words.first_common_bit.Goals as goal

pub returns-then-both-ne0 : goal.returns-then-both-ne0
returns-then-both-ne0 c =
    common_in_word _ _ _ c.loop-at.invariant c.if-both-ne0.true
    (omega (arith, c.type_inv.one c.loop-at.at, and_le_l (get_or c.args.one.now c.loop-at.at 0) (get_or c.args.two.now c.loop-at.at 0)))

pub loop-at-preserved : goal.loop-at-preserved
loop-at-preserved c = common_more _ _ _ c.loop-at.invariant c.if-both-ne0.false

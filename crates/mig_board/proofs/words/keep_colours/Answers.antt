use Rattle.mig_board.proofs.Common.{ap, arith, one_shl, subst, ◌%◌, ◌*◌, ◌+◌, ◌-◌, ◌/◌}
use Rattle.mig_board.proofs.FullSets.{AreFullSets-whole, AreFullSets-cut, cut_more, AreCut}
use Rattle.mig_board.proofs.words.keep_colours.Goals as goal

pub returns-then-rest-eq0 : goal.returns-then-rest-eq0
returns-then-rest-eq0 c = AreFullSets-whole _ _ _ c.if-rest-eq0.true c.requires

pub loop-set-preserved : goal.loop-set-preserved
loop-set-preserved c =
    cut_more _ _ _ _ c.if-rest-eq0.false c.loop-set-test.true c.loop-set.invariant _ _
    (ap (λ q. c.loop-set.set * q + c.args.colours / 64) c.words_for-each.ensures)
    (ap (λ q. q - 1) (one_shl (c.args.colours % 64) 64 (omega arith)))

pub returns : goal.returns
returns c = AreFullSets-cut _ _ _ c.if-rest-eq0.false (subst (λ q. AreCut c.args.sets c.args.colours q c.loop-set.words) (omega arith) c.loop-set.invariant)

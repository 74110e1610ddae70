use Rattle.mig_check.proofs.Common.{no_shift}
use Rattle.mig_check.proofs.EndCounts.{cleared, all_cleared}
use Rattle.mig_check.proofs.ends.clear_ends.Goals as goal

pub loop-s-preserved : goal.loop-s-preserved
loop-s-preserved c = cleared c.loop-s.counts c.args.round.now c.loop-s.s-index no_shift c.loop-s-test.true c.loop-s.invariant

pub returns : goal.returns
returns c = all_cleared c.loop-s.counts c.args.round.now c.loop-s.s-index c.loop-s-test.false c.loop-s.invariant

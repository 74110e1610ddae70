use Rattle.mig_numbers.proofs.Common.{rules}
use Rattle.mig_numbers.proofs.SortedRows.{increasing_next}
use Rattle.mig_numbers.proofs.spelling.is_increasing.Goals as goal

pub loop-k-preserved : goal.loop-k-preserved
loop-k-preserved c = increasing_next c.args.set.now c.loop-k.k c.loop-k-test.true c.loop-k.invariant (search (rules))

use Rattle.mig_numbers.proofs.Common.{arith}
use Rattle.mig_numbers.proofs.spelling.row_fault.Goals as goal

pub returns : goal.returns
returns c = λ j d lt. c.loop-k.invariant j d (omega (arith, lt, c.loop-k-test.false))

use Rattle.std.proofs.Common.{arith}
use Rattle.mig_host.proofs.unsynced.look.Goals as goal

pub returns-in-Err-clause-none : goal.returns-in-Err-clause-none
returns-in-Err-clause-none g c = c.in-Err.ensures.absent (c.is_nowhere.ensures c.if-is_nowhere.true)

pub returns-then-not-starts_with-clause-none : goal.returns-then-not-starts_with-clause-none
returns-then-not-starts_with-clause-none g c = λ t le. c.in_ok-remove.ensures.absent t (omega (arith, le, c.open.ensures.goes.later))

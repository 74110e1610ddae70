use Rattle.mig_files.proofs.Common.{HasTried}
use Rattle.mig_files.proofs.opening.extent.Given as goal

abbrev pub invariant-tries : goal.invariant-tries
invariant-tries g l = HasTried l.counter l.tracked.notes (g.C.Calls.state l.fn.calls) (g.C.Calls.state l.calls)

use Rattle.mig_files.proofs.Common.{WasInterrupted}
use Rattle.mig_files.proofs.tries.make.Given as goal

abbrev pub invariant-tries : goal.invariant-tries
invariant-tries g l = WasInterrupted l.task l.counter (g.C.Calls.state l.fn.calls) (g.C.Calls.state l.calls)

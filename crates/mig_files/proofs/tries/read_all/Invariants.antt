use Rattle.mig_files.proofs.Common.{HasReadSome}
use Rattle.mig_files.proofs.tries.read_all.Given as goal

abbrev pub invariant-tries : goal.invariant-tries
invariant-tries g l = HasReadSome l.place l.offset l.done l.counter l.into (g.C.Calls.state l.fn.calls) (g.C.Calls.state l.calls)

use Rattle.mig_files.proofs.Common.{HasWrittenSome}
use Rattle.mig_files.proofs.pieces.write_all.Given as goal

abbrev pub invariant-tries : goal.invariant-tries
invariant-tries g l = HasWrittenSome l.place l.offset l.done l.counter l.bytes l.tracked.notes (g.C.Calls.state l.fn.calls) (g.C.Calls.state l.calls)

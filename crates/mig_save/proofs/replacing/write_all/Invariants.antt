use Rattle.mig_save.proofs.Common.{HasWritten, length, ◌-◌}
use Rattle.mig_save.proofs.replacing.write_all.Given as goal

abbrev pub invariant-loop-done : goal.invariant-loop-done
invariant-loop-done g l = HasWritten l.done l.bytes (g.C.SaveCalls.state l.fn.calls) (g.C.SaveCalls.state l.calls)

abbrev pub decreases-loop-done : goal.decreases-loop-done
decreases-loop-done g l = length l.bytes - l.done

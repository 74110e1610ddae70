use Rattle.mig_check.proofs.Repeats.{Marks}
use Rattle.mig_check.proofs.shifts.find_repeat.Given as goal

abbrev pub invariant-loop-s : goal.invariant-loop-s
invariant-loop-s l = Marks l.seen l.round l.s-index l.number

use Rattle.mig_text.proofs.Common.{IsRoundPart}
use Rattle.mig_text.proofs.plan_read.take_round.Given as goal

abbrev pub invariant-shifts : goal.invariant-shifts
invariant-shifts l = IsRoundPart l.finder l.number l.count l.counter l.shifts.items l.fn.lines l.lines

use Rattle.mig_text.proofs.Common.{AreRoundsRead}
use Rattle.mig_text.proofs.plan_read.take_rounds.Given as goal

abbrev pub invariant-loop-k : goal.invariant-loop-k
invariant-loop-k l = AreRoundsRead l.finder l.k l.rounds.items l.fn.lines l.lines

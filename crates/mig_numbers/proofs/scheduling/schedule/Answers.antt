use Rattle.mig_numbers.proofs.Common.{IsOfPairs, subst, sym}
use Rattle.mig_numbers.proofs.Slotless.{slotless}
use Rattle.mig_numbers.specs.declared.numbers.Refused.{Refused}
use Rattle.mig_numbers.proofs.scheduling.schedule.Goals as goal

pub returns-in-Err-clause-slotless : goal.returns-in-Err-clause-slotless
returns-in-Err-clause-slotless c e = subst (λ (r : Refused). IsOfPairs r.cause) (sym c.refused_in.ensures) (slotless c.args.split c.args.limits.now c.args.pairs.now c.in-Err.why c.in-Err.ensures.refused)

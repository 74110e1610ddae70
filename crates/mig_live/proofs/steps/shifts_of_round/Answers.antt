use Rattle.mig_live.proofs.Common.{arith, round_short}
use Rattle.mig_live.proofs.steps.shifts_of_round.Goals as goal

pub returns-clause-few : goal.returns-clause-few
returns-clause-few c = omega (arith, c.round_len.ensures.count, round_short c.args.job.now c.keeps_rules.ensures c.args.round (omega (arith, c.if-round-eq0.false)) (omega (arith, c.if-round-rounds.false, c.rounds.ensures.count)))

use Rattle.mig_jobs.proofs.VacancySteps.{some_round, no_round_of}
use Rattle.mig_jobs.proofs.left_rounds.LeftRounds.round.Goals as goal

pub returns-in-Some : goal.returns-in-Some
returns-in-Some c = rw (← c.self.view_is) (some_round c.self.inside.rounds.entries c.args.spot.now c.in-Some.round.now c.in-Some.ensures.value)

pub returns-in-None : goal.returns-in-None
returns-in-None c = rw (← c.self.view_is) (no_round_of c.self.inside.rounds.entries c.args.spot.now c.in-None.ensures.value)

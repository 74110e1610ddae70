use Rattle.mig_jobs.proofs.VacancySteps.{round_set}
use Rattle.mig_jobs.proofs.left_rounds.LeftRounds.set.Goals as goal
use Rattle.mig_jobs.proofs.left_rounds.LeftRounds.set.Goals.{in-Ok, in-Err}

pub returns : goal.returns
returns c = elim c.match-insert.branch [
  | in-Ok w ↦ rw (w.result-is, ← c.self.view_is) (round_set c.self.inside.rounds.entries c.insert.new.self.entries c.args.spot c.args.round w.in-Ok.ensures.updates.0)
  | in-Err w ↦ rw w.result-is tt
]

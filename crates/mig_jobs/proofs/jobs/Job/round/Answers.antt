use Rattle.mig_jobs.proofs.Common.{Task, ap, ◌∙◌}
use Rattle.mig_jobs.proofs.JobRounds.{round_here}
use Rattle.mig_jobs.proofs.jobs.Job.round.Goals as goal

pub returns-clause-shifts : goal.returns-clause-shifts
returns-clause-shifts c = c.shifts.ensures ∙ round_here c.args.self.now.plan c.args.round c.requires.from c.requires.to c.rounds.result.now c.index-rounds-round.result
    (c.rounds.ensures ∙ ap (λ (t : Task). t.plan) c.self.view_is) c.index-rounds-round.is

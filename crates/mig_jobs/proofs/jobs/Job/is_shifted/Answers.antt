use Rattle.mig_jobs.proofs.Common.{ap, not, ◌∙◌}
use Rattle.mig_jobs.proofs.StopLaws.{shifted_is}
use Rattle.mig_jobs.proofs.jobs.Job.is_shifted.Goals as goal

pub returns : goal.returns
returns c = ap not c.is_empty.ensures ∙ shifted_is c.args.self.now.plan c.args.item c.item_stops.result.now c.item_stops.ensures

use Rattle.mig_jobs.proofs.Common.{rules}
use Rattle.mig_jobs.proofs.jobs.Job.writes.Goals as goal

pub returns : goal.returns
returns c = search rules

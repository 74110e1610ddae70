use Rattle.mig_jobs.proofs.Common.{rules}
use Rattle.mig_jobs.proofs.headers.is_used.Goals as goal

pub returns-clause-answer : goal.returns-clause-answer
returns-clause-answer g c = search rules

use Rattle.mig_jobs.proofs.Common.{rules}
use Rattle.mig_jobs.proofs.headers.has_header.Goals as goal

pub returns : goal.returns
returns c = search rules

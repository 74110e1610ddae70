use Rattle.mig_jobs.proofs.Common.{arith, common_steps}
use Rattle.mig_jobs.proofs.tables.targets_of.Goals as goal

pub loop-round-preserved : goal.loop-round-preserved
loop-round-preserved c = grind (arith, common_steps)

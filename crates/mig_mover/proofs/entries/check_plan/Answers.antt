use Rattle.mig_mover.proofs.Common.{rules}
use Rattle.mig_mover.proofs.entries.check_plan.Goals as goal

pub returns-clause-ours : goal.returns-clause-ours
returns-clause-ours c = search rules

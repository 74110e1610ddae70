use Rattle.mig_journal.proofs.Common.{rules}
use Rattle.mig_journal.proofs.arming.disarm.Goals as goal

pub returns-clause-settled : goal.returns-clause-settled
returns-clause-settled g c = search rules

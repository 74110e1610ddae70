use Rattle.mig_best.proofs.Common.{rules}
use Rattle.mig_best.proofs.certifying.value_of.Goals as goal

pub returns-in-Nothing : goal.returns-in-Nothing
returns-in-Nothing c = search rules

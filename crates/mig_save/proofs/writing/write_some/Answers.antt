use Rattle.mig_save.proofs.Common.{rules}
use Rattle.mig_save.proofs.writing.write_some.Goals as goal

pub returns-in_default-clause-tried_again : goal.returns-in_default-clause-tried_again
returns-in_default-clause-tried_again g c = search rules

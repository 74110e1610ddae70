use Rattle.mig_gen.proofs.Common.{rules}
use Rattle.mig_gen.proofs.lists.other.Goals as goal

pub returns-then-number-disk : goal.returns-then-number-disk
returns-then-number-disk c = search rules

use Rattle.mig_gen.proofs.Common.{rules}
use Rattle.mig_gen.proofs.cases.is_case_size.Goals as goal

pub returns-then-limit-ge1 : goal.returns-then-limit-ge1
returns-then-limit-ge1 c = search rules

pub returns-else-limit-ge1 : goal.returns-else-limit-ge1
returns-else-limit-ge1 c = search rules

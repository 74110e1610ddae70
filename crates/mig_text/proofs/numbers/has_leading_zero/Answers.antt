use Rattle.mig_text.proofs.Common.{rules}
use Rattle.mig_text.proofs.numbers.has_leading_zero.Goals as goal

pub returns-then-word-gt1 : goal.returns-then-word-gt1
returns-then-word-gt1 c = search rules

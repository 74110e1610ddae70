use Rattle.mig_shannon.proofs.Common.{Recolours-exchanged}
use Rattle.mig_shannon.proofs.walks.let_lack.Goals as goal

pub returns-then-not-is_missing-clause-recolours : goal.returns-then-not-is_missing-clause-recolours
returns-then-not-is_missing-clause-recolours c = Recolours-exchanged _ _ _ _ _ _ c.exchange.ensures.exchanged

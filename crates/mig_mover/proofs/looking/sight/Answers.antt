use Rattle.mig_mover.proofs.Common.{arith, common_steps, rules}
use Rattle.mig_mover.proofs.looking.sight.Goals as goal

pub returns-clause-named : goal.returns-clause-named
returns-clause-named g c = grind (arith, common_steps)

pub returns-clause-digest : goal.returns-clause-digest
returns-clause-digest g c = search rules

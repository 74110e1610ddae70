use Rattle.mig_csv.proofs.Common.{rules}
use Rattle.mig_csv.proofs.room.add_needs.Goals as goal

pub returns-then-ne-clause-each : goal.returns-then-ne-clause-each
returns-then-ne-clause-each c = search rules

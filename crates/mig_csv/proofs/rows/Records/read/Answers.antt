use Rattle.mig_csv.proofs.Common.{arith}
use Rattle.mig_csv.proofs.RecordLists.{read_none, read_one}
use Rattle.mig_csv.proofs.rows.Records.read.Goals as goal
use Rattle.mig_csv.proofs.rows.Records.read.Goals.{in-Ok, in-Err}

pub invariant_of-self : goal.invariant_of-self
invariant_of-self c = grind (arith, in-Ok, read_one, in-Err, read_none)

pub returns-clause-found : goal.returns-clause-found
returns-clause-found c = grind (arith, in-Ok, read_one, in-Err)

use Rattle.mig_io.proofs.Common.{arith, common_steps}
use Rattle.mig_io.proofs.reading.read_first.Goals as goal

pub returns-clause-bytes : goal.returns-clause-bytes
returns-clause-bytes g c = grind (arith, common_steps)

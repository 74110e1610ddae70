use Rattle.mig_io.proofs.Common.{arith, common_steps, rules}
use Rattle.mig_io.proofs.memory.MemFolderFolder.load.Goals as goal

pub returns-clause-bytes : goal.returns-clause-bytes
returns-clause-bytes c = grind (arith, common_steps)

pub returns-clause-most : goal.returns-clause-most
returns-clause-most c = search rules

use Rattle.mig_calls.proofs.FilesSteps.{change_then}
use Rattle.mig_calls.proofs.memory.MemCalls.bring_names.Goals as goal

pub returns-clause-look : goal.returns-clause-look
returns-clause-look c = change_then c.enter.ensures.look c.name.ensures.look

use Rattle.mig_calls.proofs.FilesSteps.{change_then}
use Rattle.mig_calls.proofs.memory.MemCallsCalls.sync_names.Goals as goal

pub returns-in-Err-Failed-clause-change : goal.returns-in-Err-Failed-clause-change
returns-in-Err-Failed-clause-change c = change_then c.bring_names.ensures.look c.give_up.ensures.look

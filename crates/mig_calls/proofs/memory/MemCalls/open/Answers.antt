use Rattle.mig_calls.proofs.Common.{FileMemory, FilesLook, files_state, subst}
use Rattle.mig_calls.proofs.FilesSteps.{change_then}
use Rattle.mig_calls.proofs.memory.MemCalls.open.Goals as goal

pub returns-in-Err-clause-look : goal.returns-in-Err-clause-look
returns-in-Err-clause-look c = change_then c.enter.ensures.look (subst (λ (m : FileMemory). FilesLook (files_state m) (files_state c.fail.new.self)) c.self.view_is c.fail.ensures.look)

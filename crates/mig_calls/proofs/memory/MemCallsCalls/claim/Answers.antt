use Rattle.mig_calls.proofs.FilesSteps.{change_then}
use Rattle.mig_calls.proofs.memory.MemCallsCalls.claim.Goals as goal

pub returns-in_err-_made-clause-change : goal.returns-in_err-_made-clause-change
returns-in_err-_made-clause-change c = change_then c.open.ensures.look c.make.ensures.look

pub returns-clause-change : goal.returns-clause-change
returns-clause-change c = change_then (change_then c.open.ensures.look c.make.ensures.look) c.own.ensures.look

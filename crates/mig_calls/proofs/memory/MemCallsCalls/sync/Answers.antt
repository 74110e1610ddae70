use Rattle.mig_calls.proofs.FilesSteps.{change_then, touches_then, touches_of}
use Rattle.mig_calls.proofs.memory.MemCallsCalls.sync.Goals as goal

pub returns-in-Err-Failed-clause-flags : goal.returns-in-Err-Failed-clause-flags
returns-in-Err-Failed-clause-flags c = touches_then c.bring.ensures.flags (touches_of c.args.place.now c.give_up.ensures.flushed)

pub returns-in-Err-Failed-clause-change : goal.returns-in-Err-Failed-clause-change
returns-in-Err-Failed-clause-change c = change_then c.bring.ensures.look c.give_up.ensures.look

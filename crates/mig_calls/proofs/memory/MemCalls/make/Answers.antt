use Rattle.mig_calls.proofs.Common.{NoByte, arith, refl}
use Rattle.mig_calls.proofs.MemorySteps.{kept_change, made_look}
use Rattle.mig_calls.proofs.memory.MemCalls.make.Goals as goal

pub returns-then-there-clause-look : goal.returns-then-there-clause-look
returns-then-there-clause-look c = kept_change NoByte c.args.self.now c.args.self.now refl (omega arith)

-- the device may go on having no file under its name
pub returns-in_err-change-clause-look : goal.returns-in_err-change-clause-look
returns-in_err-change-clause-look c = kept_change NoByte c.args.self.now c.change.new.self c.in_err-change.ensures.nothing c.change.ensures.refused

pub returns-clause-look : goal.returns-clause-look
returns-clause-look c = made_look c.args.self.now c.change.new.self c.args.place.now c.in_ok-change.ensures.done c.change.ensures.refused

use Rattle.mig_calls.proofs.Common.{FileMemory, NoByte, ap}
use Rattle.mig_calls.proofs.MemorySteps.{kept_change}
use Rattle.mig_calls.proofs.memory.MemCallsCalls.refuse.Goals as goal

pub returns-then-is_found-clause-change : goal.returns-then-is_found-clause-change
returns-then-is_found-clause-change c = kept_change NoByte c.args.self.now c.deny.new.self (ap (λ (m : FileMemory). m.steps) c.deny.ensures.same) c.deny.ensures.more

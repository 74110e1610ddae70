use Rattle.mig_calls.proofs.Common.{FileMemory, NoByte, ap, arith, true}
use Rattle.mig_calls.proofs.MemorySteps.{kept_at}
use Rattle.mig_calls.proofs.memory.MemCalls.own.Goals as goal

pub returns-clause-look : goal.returns-clause-look
returns-clause-look c = kept_at NoByte c.args.self.now c.self.inside.disk _ _ _ true _ (ap (λ (m : FileMemory). m.steps) c.self.view_is)
    (omega (arith, ap (λ (m : FileMemory). m.refused) c.self.view_is))

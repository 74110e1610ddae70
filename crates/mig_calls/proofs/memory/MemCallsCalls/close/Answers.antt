use Rattle.mig_calls.proofs.Common.{FileMemory, NoByte, ap, arith}
use Rattle.mig_calls.proofs.MemorySteps.{kept_at}
use Rattle.mig_calls.proofs.memory.MemCallsCalls.close.Goals as goal

pub returns-clause-change : goal.returns-clause-change
returns-clause-change c = kept_at NoByte c.args.self.now c.self.inside.disk _ _ _ _ _ (ap (λ (m : FileMemory). m.steps) c.self.view_is)
    (omega (arith, ap (λ (m : FileMemory). m.refused) c.self.view_is))

use Rattle.mig_calls.proofs.Common.{FileMemory, NoByte, ap, arith, ◌∙◌}
use Rattle.mig_calls.proofs.MemorySteps.{kept_change, kept_at}
use Rattle.mig_calls.proofs.memory.MemCalls.enter.Goals as goal

pub returns-then-interrupts-clause-look : goal.returns-then-interrupts-clause-look
returns-then-interrupts-clause-look c = kept_change NoByte c.args.self.now c.leave.new.self (ap (λ (m : FileMemory). m.steps) c.leave.ensures.same ∙ ap (λ (m : FileMemory). m.steps) c.self.view_is)
    (omega (arith, ap (λ (m : FileMemory). m.refused) c.leave.ensures.same, ap (λ (m : FileMemory). m.refused) c.self.view_is))

pub returns-clause-look : goal.returns-clause-look
returns-clause-look c = kept_at NoByte c.args.self.now c.self.inside.disk _ _ _ _ _ (ap (λ (m : FileMemory). m.steps) c.self.view_is)
    (omega (arith, ap (λ (m : FileMemory). m.refused) c.self.view_is))

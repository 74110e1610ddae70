use Rattle.mig_calls.proofs.Common.{FileMemory, Named, [], ap, arith, ◌++◌, ◌∙◌, ◌∷◌}
use Rattle.mig_calls.proofs.MemorySteps.{named_at}
use Rattle.mig_calls.proofs.memory.MemCalls.name.Goals as goal

pub returns-in-Ok-clause-look : goal.returns-in-Ok-clause-look
returns-in-Ok-clause-look c = named_at c.args.self.now c.name_all.new.self _ _ _ _ _ (c.in-Ok.ensures.done ∙ ap (λ (m : FileMemory). m.steps ++ Named ∷ []) c.self.view_is)
    (omega (arith, ap (λ (m : FileMemory). m.refused) c.self.view_is))

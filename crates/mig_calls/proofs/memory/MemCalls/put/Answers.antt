use Rattle.mig_calls.proofs.Common.{FileMemory, IsWithin, Wrote, ap, arith, length}
use Rattle.std.proofs.lemmas.Result.{on_ok_weaker}
use Rattle.mig_calls.proofs.FilesSteps.{either}
use Rattle.mig_calls.proofs.MemorySteps.{kept_change, kept_touches, touches, wrote_has, wrote_given}
use Rattle.mig_calls.proofs.memory.MemCalls.put.Goals as goal

pub returns-in-Ok-clause-written : goal.returns-in-Ok-clause-written
returns-in-Ok-clause-written c = on_ok_weaker c.change.result
    (λ is. wrote_has c.args.self.now c.change.new.self c.args.place.now c.args.at c.in-Ok.values is c.args.values.now c.in-Ok.ensures) c.change.ensures.done

pub returns-in-Ok-clause-change : goal.returns-in-Ok-clause-change
returns-in-Ok-clause-change c = either c.change.result c.change.ensures.done c.change.ensures.nothing
    (λ is. wrote_given c.args.self.now c.change.new.self c.args.place.now c.args.at c.in-Ok.values is c.args.values.now c.in-Ok.ensures c.change.ensures.refused)
    (λ is. kept_change (IsWithin c.args.place.now c.args.at (length c.args.values.now)) c.args.self.now c.change.new.self is c.change.ensures.refused)

pub returns-in-Ok-clause-flags : goal.returns-in-Ok-clause-flags
returns-in-Ok-clause-flags c = either c.change.result c.change.ensures.done c.change.ensures.nothing
    (λ is. touches c.args.self.now c.change.new.self c.args.place.now (Wrote c.args.at c.in-Ok.values) is)
    (λ is. kept_touches c.args.place.now c.args.self.now c.change.new.self is)

pub returns-in-Err-clause-change : goal.returns-in-Err-clause-change
returns-in-Err-clause-change c =
    kept_change (IsWithin c.args.place.now c.args.at (length c.args.values.now)) c.args.self.now c.fail.new.self (ap (λ (m : FileMemory). m.steps) c.fail.ensures.same)
    (omega (arith, ap (λ (m : FileMemory). m.refused) c.fail.ensures.same))

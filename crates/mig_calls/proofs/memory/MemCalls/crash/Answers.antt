use Rattle.mig_calls.proofs.Common.{FileMemory, ap, ◌∙◌}
use Rattle.mig_calls.proofs.Crashes.{crash_picked, crash_left, crash_settled, crash_named, crash_flushed}
use Rattle.mig_calls.proofs.memory.MemCalls.crash.Goals as goal

pub returns-clause-picked : goal.returns-clause-picked
returns-clause-picked c = crash_picked c.args.self c.mount.new.self c.args.pick (ap (λ (m : FileMemory). m.steps) c.mount.ensures ∙ ap (λ (m : FileMemory). m.steps) c.in_ok-crash_disk.ensures.done)

pub returns-clause-left : goal.returns-clause-left
returns-clause-left c = crash_left c.args.self c.mount.new.self c.args.pick (ap (λ (m : FileMemory). m.steps) c.mount.ensures ∙ ap (λ (m : FileMemory). m.steps) c.in_ok-crash_disk.ensures.done)

pub returns-clause-settled : goal.returns-clause-settled
returns-clause-settled c = crash_settled c.args.self c.mount.new.self c.args.pick (ap (λ (m : FileMemory). m.steps) c.mount.ensures ∙ ap (λ (m : FileMemory). m.steps) c.in_ok-crash_disk.ensures.done) (ap (λ (m : FileMemory). m.usable) c.mount.ensures)

pub returns-clause-named : goal.returns-clause-named
returns-clause-named c = crash_named c.args.self c.mount.new.self c.args.pick (ap (λ (m : FileMemory). m.steps) c.mount.ensures ∙ ap (λ (m : FileMemory). m.steps) c.in_ok-crash_disk.ensures.done)

pub returns-clause-flushed : goal.returns-clause-flushed
returns-clause-flushed c = crash_flushed c.args.self c.mount.new.self c.args.pick (ap (λ (m : FileMemory). m.steps) c.mount.ensures ∙ ap (λ (m : FileMemory). m.steps) c.in_ok-crash_disk.ensures.done)

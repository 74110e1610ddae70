use Rattle.mig_files.proofs.Common.{IsStep, Notes, StaysAlive, subst, sym}
use Rattle.mig_files.proofs.TrackingSteps.{step_then, quiet_step, alive_kept}
use Rattle.mig_files.proofs.opening.ask_len.Goals as goal

pub returns-in-Ok-clause-step : goal.returns-in-Ok-clause-step
returns-in-Ok-clause-step g c =
    let a = g.C.Calls.state c.args.calls.now in
    let b = g.C.Calls.state c.len.new.self in
    subst (λ (t : Notes). IsStep t a b) (sym c.keep_open.ensures.notes)
    (quiet_step c.requires.tracked (record { flags = c.len.ensures.flags; change = c.len.ensures.change; later = c.len.ensures.cause.later; more = c.len.ensures.cause.more }))

pub returns-in-Ok-clause-kept : goal.returns-in-Ok-clause-kept
returns-in-Ok-clause-kept g c =
    let a = g.C.Calls.state c.args.calls.now in
    let b = g.C.Calls.state c.len.new.self in
    subst (λ (t : Notes). StaysAlive t a b) (sym c.keep_open.ensures.notes) (alive_kept c.len.ensures.flags c.requires.alive)

pub returns-in_ok-make_way-in-Err-Full-clause-step : goal.returns-in_ok-make_way-in-Err-Full-clause-step
returns-in_ok-make_way-in-Err-Full-clause-step g c =
    step_then
    (quiet_step c.requires.tracked (record { flags = c.len.ensures.flags; change = c.len.ensures.change; later = c.len.ensures.cause.later; more = c.len.ensures.cause.more }))
    c.make_way.ensures.step

use Rattle.mig_files.proofs.Common.{arith, file_of, len_of, refl}
use Rattle.mig_files.proofs.TrackingSteps.{step_at_cell, step_is_write}
use Rattle.mig_files.proofs.Headers.{emptied, on_any}
use Rattle.mig_files.proofs.Holding.{held_less, held_looked, held_written, none_lost}
use Rattle.mig_files.proofs.Derivation.{end_after}
use Rattle.mig_files.proofs.writes.empty.Goals as goal

pub returns-clause-held : goal.returns-clause-held
returns-clause-held g c =
    held_written c.args.slot.now (step_at_cell c.args.slot.now refl refl refl c.expects_free.ensures.step c.write_cell.ensures.step).change c.forget.ensures.others c.forget.ensures.forgotten
    c.requires.held

pub returns-then-len-offset-clause-written : goal.returns-then-len-offset-clause-written
returns-then-len-offset-clause-written g c =
    let b = g.C.Calls.state c.expects_free.new.calls in
    emptied b c.args.slot.now c.args.zeros.now (len_of c.in_ok-found.found) c.requires.length c.requires.zeros (omega arith)
    (end_after c.expects_free.ensures.step.change (file_of c.args.slot.now) _ c.in_ok-found.ensures.end)

pub returns-then-len-offset-clause-held : goal.returns-then-len-offset-clause-held
returns-then-len-offset-clause-held g c = held_less c.args.slot.now c.forget.ensures.others c.forget.ensures.forgotten (held_looked c.expects_free.ensures.step.change c.requires.held)

pub returns-then-len-offset-clause-free : goal.returns-then-len-offset-clause-free
returns-then-len-offset-clause-free g c = none_lost c.args.slot.now c.requires.held c.in_ok-found.ensures.free

pub returns-clause-free : goal.returns-clause-free
returns-clause-free g c = on_any c.write_cell.result (none_lost c.args.slot.now c.requires.held c.in_ok-found.ensures.free)

pub returns-clause-step : goal.returns-clause-step
returns-clause-step g c = step_at_cell c.args.slot.now refl refl refl c.expects_free.ensures.step c.write_cell.ensures.step

pub returns-then-len-offset-clause-step : goal.returns-then-len-offset-clause-step
returns-then-len-offset-clause-step g c = step_is_write c.expects_free.ensures.step

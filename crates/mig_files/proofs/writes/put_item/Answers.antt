use Rattle.mig_files.proofs.Common.{refl, ◌∙◌}
use Rattle.mig_files.proofs.TrackingSteps.{step_then, step_at_cell, step_is_write, write_step_then}
use Rattle.mig_files.proofs.Headers.{on_any}
use Rattle.mig_files.proofs.Holding.{held_written, holds_written, none_lost_but}
use Rattle.mig_files.proofs.Derivation.{written_after}
use Rattle.mig_files.proofs.writes.put_item.Goals as goal

pub returns-clause-written : goal.returns-clause-written
returns-clause-written g c = on_any _ (written_after c.note_seen.ensures.step.change c.args.slot.now _ c.in_ok-write_cell.ensures.written)

pub returns-clause-free : goal.returns-clause-free
returns-clause-free g c = on_any c.note_seen.result (none_lost_but c.args.slot.now c.args.item.now c.requires.held c.in_ok-expects_free_for.ensures.free)

pub note_seen-requires-clause-copied : goal.note_seen-requires-clause-copied
note_seen-requires-clause-copied g c = (c.requires.apart, c.forget.ensures.others c.args.from.now c.requires.apart ∙ c.requires.seen)

pub note_seen-requires-clause-holds : goal.note_seen-requires-clause-holds
note_seen-requires-clause-holds g c =
    holds_written (g.C.Calls.state c.write_cell.new.calls) c.args.slot.now c.args.bytes.now c.args.item.now c.requires.slot c.requires.length c.requires.named c.in_ok-write_cell.ensures.written

pub note_seen-requires-clause-held : goal.note_seen-requires-clause-held
note_seen-requires-clause-held g c =
    held_written c.args.slot.now (step_at_cell c.args.slot.now refl refl refl (step_then c.expects_free_for.ensures.step c.claim.ensures.step) c.write_cell.ensures.step).change
    c.forget.ensures.others c.forget.ensures.forgotten c.requires.held

pub returns-in_err-write_cell-clause-held : goal.returns-in_err-write_cell-clause-held
returns-in_err-write_cell-clause-held g c =
    held_written c.args.slot.now (step_at_cell c.args.slot.now refl refl refl (step_then c.expects_free_for.ensures.step c.claim.ensures.step) c.write_cell.ensures.step).change
    c.forget.ensures.others c.forget.ensures.forgotten c.requires.held

pub returns-in_err-expects_free_for-clause-step : goal.returns-in_err-expects_free_for-clause-step
returns-in_err-expects_free_for-clause-step g c = step_is_write c.expects_free_for.ensures.step

pub returns-in_err-claim-clause-step : goal.returns-in_err-claim-clause-step
returns-in_err-claim-clause-step g c = step_is_write (step_then c.expects_free_for.ensures.step c.claim.ensures.step)

pub returns-in_err-write_cell-clause-step : goal.returns-in_err-write_cell-clause-step
returns-in_err-write_cell-clause-step g c = (step_at_cell c.args.slot.now refl refl refl (step_then c.expects_free_for.ensures.step c.claim.ensures.step) c.write_cell.ensures.step)

pub returns-clause-step : goal.returns-clause-step
returns-clause-step g c =
    write_step_then (step_at_cell c.args.slot.now refl refl refl (step_then c.expects_free_for.ensures.step c.claim.ensures.step) c.write_cell.ensures.step) (step_is_write c.note_seen.ensures.step)

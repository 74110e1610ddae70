use Rattle.mig_files.proofs.Common.{file_of}
use Rattle.mig_calls.proofs.FilesSteps.{change_then}
use Rattle.mig_files.proofs.FilesSteps.{told_before}
use Rattle.mig_files.proofs.Derivation.{end_after}
use Rattle.mig_files.proofs.Headers.{header_after, held_after, held_before, on_any}
use Rattle.mig_files.proofs.Grounds.{fault_after}
use Rattle.mig_files.proofs.Errs.{err_any}
use Rattle.mig_store.specs.Grounds.{Lacks}
use Rattle.mig_files.proofs.items.expects.Goals as goal

pub check_held-requires-clause-header : goal.check_held-requires-clause-header
check_held-requires-clause-header g c = header_after c.header_there.ensures.step.change c.args.slot.now 34 _ c.in_ok-found.ensures.header

pub note_held-requires-clause-end : goal.note_held-requires-clause-end
note_held-requires-clause-end g c =
    end_after (change_then c.header_there.ensures.step.change c.check_held.ensures.step.change) (file_of c.args.slot.now) _ c.in_ok-found.ensures.end

pub note_held-requires-clause-holds : goal.note_held-requires-clause-holds
note_held-requires-clause-holds g c = λ told.
    let look = c.check_held.ensures.step.change in
    held_after look c.args.slot.now c.args.item.now (c.in_ok-check_held.ensures.held (told_before look (file_of c.args.slot.now) told))

pub returns-clause-holds : goal.returns-clause-holds
returns-clause-holds g c = on_any c.note_held.result (held_before c.header_there.ensures.step.change c.args.slot.now c.args.item.now c.in_ok-check_held.ensures.held)

pub returns-in_err-check_held-clause-cause : goal.returns-in_err-check_held-clause-cause
returns-in_err-check_held-clause-cause g c =
    err_any _ (fault_after (λ image. Lacks image c.args.slot.now c.args.item.now) c.header_there.ensures.step c.in_err-check_held.ensures.cause)

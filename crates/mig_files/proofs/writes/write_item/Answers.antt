use Rattle.mig_files.proofs.Common.{refl, seen_in}
use Rattle.mig_files.proofs.TrackingSteps.{step_at_cell}
use Rattle.mig_files.proofs.Derivation.{on_ok}
use Rattle.mig_files.proofs.Holding.{held_written, lost_before}
use Rattle.mig_files.proofs.Grounds.{on_err, or_by, fault_after}
use Rattle.mig_store.specs.Grounds.{IsLast}
use Rattle.mig_files.proofs.writes.write_item.Goals as goal

pub returns-clause-held : goal.returns-clause-held
returns-clause-held g c =
    held_written c.args.cell.now (step_at_cell c.args.cell.now refl refl refl c.claim.ensures.step c.write_cell.ensures.step).change c.forget.ensures.others c.forget.ensures.forgotten c.requires.held

pub returns-then-empties-clause-free : goal.returns-then-empties-clause-free
returns-then-empties-clause-free g c = λ erases. on_ok c.empty.result c.empty.ensures.free (lost_before c.claim.ensures.step.change c.args.cell.now)

pub returns-then-empties-clause-cause : goal.returns-then-empties-clause-cause
returns-then-empties-clause-cause g c =
    on_err c.empty.result c.empty.ensures.cause (λ why.
    or_by (fault_after (λ image. IsLast image (seen_in c.args.seen.now) c.args.cell.now) c.claim.ensures.step why)
    (λ last. (last.0, (c.if-empties.ensures, last.1))))

pub returns-clause-step : goal.returns-clause-step
returns-clause-step g c = step_at_cell c.args.cell.now refl refl refl c.claim.ensures.step c.write_cell.ensures.step

pub returns-then-empties-clause-step : goal.returns-then-empties-clause-step
returns-then-empties-clause-step g c = step_at_cell c.args.cell.now refl refl refl c.claim.ensures.step c.empty.ensures.step

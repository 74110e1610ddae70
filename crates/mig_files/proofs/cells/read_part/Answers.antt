use Rattle.mig_files.proofs.TrackingSteps.{step_then, quiet_step}
use Rattle.mig_files.proofs.Derivation.{part_read, end_at_cell, end_after}
use Rattle.mig_files.proofs.cells.read_part.Goals as goal

pub read_found-requires-clause-end : goal.read_found-requires-clause-end
read_found-requires-clause-end g c = end_after c.open_place.ensures.step.change _ _ c.in_ok-found.ensures.end

pub returns-clause-bytes : goal.returns-clause-bytes
returns-clause-bytes g c = part_read c.args.cell.now _ c.read_found.new.into c.open_place.ensures.step.change c.place_of-place.ensures.file c.place_of-place.ensures.offset c.in_ok-read_found.ensures.bytes

pub returns-clause-end : goal.returns-clause-end
returns-clause-end g c = end_at_cell (g.C.Calls.state c.args.calls.now) c.args.cell.now _ c.place_of-place.ensures.file c.in_ok-found.ensures.end

pub returns-clause-step : goal.returns-clause-step
returns-clause-step g c = step_then c.open_place.ensures.step (quiet_step c.open_place.ensures.step.tracked c.read_found.ensures.quiet)

pub returns-in_err-read_found-clause-step : goal.returns-in_err-read_found-clause-step
returns-in_err-read_found-clause-step g c = step_then c.open_place.ensures.step (quiet_step c.open_place.ensures.step.tracked c.read_found.ensures.quiet)

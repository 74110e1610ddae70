use Rattle.mig_files.proofs.TrackingSteps.{step_at_cell}
use Rattle.mig_files.proofs.Derivation.{cell_written_at, on_ok}
use Rattle.mig_files.proofs.cells.write_cell.Goals as goal

pub returns-clause-written : goal.returns-clause-written
returns-clause-written g c =
    on_ok c.write_all.result c.write_all.ensures.written (λ has. cell_written_at
    (g.C.Calls.state c.write_all.new.calls) c.args.cell.now c.args.bytes.now c.place_of-place.ensures.file c.place_of-place.ensures.offset c.requires.length has)

pub returns-clause-step : goal.returns-clause-step
returns-clause-step g c = step_at_cell c.args.cell.now c.place_of-place.ensures.file c.place_of-place.ensures.offset c.requires.length c.open_with_room.ensures.step c.write_all.ensures.step

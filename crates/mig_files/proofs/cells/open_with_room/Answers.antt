use Rattle.mig_files.proofs.Common.{file_of}
use Rattle.mig_files.proofs.TrackingSteps.{alive_then, alive_same}
use Rattle.mig_files.proofs.Derivation.{end_at_cell, end_after, on_ok}
use Rattle.mig_files.proofs.cells.open_with_room.Goals as goal

pub check_room-requires-clause-end : goal.check_room-requires-clause-end
check_room-requires-clause-end g c =
    let a = g.C.Calls.state c.args.calls.now in
    end_after c.open_place.ensures.step.change (file_of c.args.cell.now) _
    (end_at_cell a c.args.cell.now _ c.requires.file c.in_ok-found.ensures.end)

pub returns-clause-kept : goal.returns-clause-kept
returns-clause-kept g c =
    on_ok c.check_room.result c.check_room.ensures.kept (λ same. alive_then c.in_ok-found.ensures.kept (alive_same same c.in_ok-found.ensures.kept.alive))

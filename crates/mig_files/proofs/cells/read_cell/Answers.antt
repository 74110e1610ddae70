use Rattle.mig_files.proofs.Common.{file_of, length, ◌∙◌}
use Rattle.mig_calls.proofs.FilesSteps.{change_then}
use Rattle.mig_files.proofs.Derivation.{end_after}
use Rattle.mig_files.proofs.Headers.{whole_read, on_any}
use Rattle.mig_files.proofs.cells.read_cell.Goals as goal

pub check_whole-requires-clause-end : goal.check_whole-requires-clause-end
check_whole-requires-clause-end g c =
    end_after (change_then c.read_part.ensures.step.change c.check_room.ensures.step.change) (file_of c.args.cell.now) _ c.in_ok-found.ensures.end

pub returns-clause-bytes : goal.returns-clause-bytes
returns-clause-bytes g c =
    on_any c.check_whole.result (whole_read (g.C.Calls.state c.args.calls.now) c.args.cell.now (length c.args.into.now) c.read_part.new.into c.requires.length
    (c.read_part.auto.into ∙ c.requires.length) c.in_ok-found.ensures.bytes)

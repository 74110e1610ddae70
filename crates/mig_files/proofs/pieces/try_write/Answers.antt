use Rattle.mig_files.proofs.Common.{◌∙◌}
use Rattle.mig_files.proofs.TrackingSteps.{tracked_more, unsynced_back}
use Rattle.mig_files.proofs.pieces.try_write.Goals as goal

pub no_memory-requires : goal.no_memory-requires
no_memory-requires g c = record { tracked = tracked_more c.note_write.ensures.notes (unsynced_back _ _ c.note_write.ensures.unsynced) c.note_write.ensures.kept c.requires.tracked }

pub write_noted-requires-clause-tracked : goal.write_noted-requires-clause-tracked
write_noted-requires-clause-tracked g c = tracked_more c.note_write.ensures.notes (unsynced_back _ _ c.note_write.ensures.unsynced) c.note_write.ensures.kept c.requires.tracked

pub returns-in-Err-clause-kept : goal.returns-in-Err-clause-kept
returns-in-Err-clause-kept g c = record {
  alive = c.note_write.ensures.notes.lost ∙ c.requires.alive;
  claimed = λ is. c.no_memory.ensures.flags.rights.claimed ∙ is;
}

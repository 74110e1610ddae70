use Rattle.mig_files.proofs.Common.{sym, ◌∙◌}
use Rattle.mig_files.proofs.TrackingSteps.{tracked_more}
use Rattle.mig_files.proofs.opening.enter.Goals as goal

pub no_memory-requires : goal.no_memory-requires
no_memory-requires g c = record { tracked = tracked_more c.meet.ensures.notes (λ off. sym c.meet.ensures.unsynced ∙ off) c.meet.ensures.kept c.requires.tracked }

pub make_room-requires-clause-tracked : goal.make_room-requires-clause-tracked
make_room-requires-clause-tracked g c = tracked_more c.meet.ensures.notes (λ off. sym c.meet.ensures.unsynced ∙ off) c.meet.ensures.kept c.requires.tracked

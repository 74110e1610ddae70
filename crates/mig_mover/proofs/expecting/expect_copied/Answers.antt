use Rattle.mig_mover.proofs.EraseSteps.{both_slots}
use Rattle.mig_mover.proofs.expecting.expect_copied.Goals as goal

pub expects_copy-requires : goal.expects_copy-requires
expects_copy-requires g c = record {
  slots = both_slots c.args.job.now.input c.args.job.now.plan c.args.round c.args.place c.requires.place c.copy-from.ensures;
}

use Rattle.mig_files.proofs.TrackingSteps.{step_then, quiet_step}
use Rattle.mig_files.proofs.syncs.sync_last.Goals as goal

pub returns-clause-step : goal.returns-clause-step
returns-clause-step g c = step_then c.sync_disk.ensures.step (quiet_step c.sync_disk.ensures.step.tracked c.close_unkept.ensures)

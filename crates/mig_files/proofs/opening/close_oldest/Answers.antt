use Rattle.mig_files.proofs.TrackingSteps.{step_then, quiet_step}
use Rattle.mig_files.proofs.opening.close_oldest.Goals as goal

pub returns-clause-step : goal.returns-clause-step
returns-clause-step g c =
    let quiet = c.close.ensures in
    step_then c.sync_disk.ensures.step
    (quiet_step c.sync_disk.ensures.step.tracked (record { flags = quiet.flags; change = quiet.change; later = quiet.later; more = quiet.more }))

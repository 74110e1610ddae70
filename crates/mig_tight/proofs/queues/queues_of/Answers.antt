use Rattle.mig_tight.proofs.Common.{arith, get_or_read}
use Rattle.mig_tight.proofs.FirstQueues.{queued_goes, queued_stays}
use Rattle.mig_tight.proofs.StateSteps.{relocated_apart}
use Rattle.mig_tight.proofs.queues.queues_of.Goals as goal

pub loop-item-preserved : goal.loop-item-preserved
loop-item-preserved c = grind (arith, get_or_read, queued_goes, relocated_apart, queued_stays)

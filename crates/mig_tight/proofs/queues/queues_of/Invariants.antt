use Rattle.mig_tight.proofs.FirstQueues.{AreQueuesBelow}
use Rattle.mig_tight.proofs.queues.queues_of.Given as goal

abbrev pub invariant-loop-item : goal.invariant-loop-item
invariant-loop-item l = AreQueuesBelow l.input l.item l.queues.items

use Rattle.mig_drain.proofs.Common.{numbers}
use Rattle.mig_drain.proofs.ReceiverLaws.{DealtBelow}
use Rattle.mig_drain.proofs.drains.deal.Given as goal

abbrev pub invariant-loop-item : goal.invariant-loop-item
invariant-loop-item l = DealtBelow l.input l.disk.0 (numbers l.places) l.item l.rank l.next.items

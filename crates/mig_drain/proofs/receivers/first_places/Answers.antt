use Rattle.mig_drain.proofs.Common.{arith, ◌∙◌}
use Rattle.mig_drain.proofs.ReceiverLaws.{places_more}
use Rattle.mig_drain.proofs.receivers.first_places.Goals as goal

pub loop-receiver-preserved : goal.loop-receiver-preserved
loop-receiver-preserved c =
    c.in_ok-push_times.ensures
    ∙ places_more c.args.receivers.now c.args.rounds c.args.items c.loop-receiver.receiver-index (record { disk = record { 0 = 0 }; free = 0; limit = 0 }) c.loop-receiver.places.items c.min.result c.loop-receiver-test.true c.loop-receiver.invariant
    (omega (arith, c.min.ensures, c.can_take.ensures, c.len.ensures))

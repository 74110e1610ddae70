use Rattle.mig_drain.proofs.Common.{receiver_places, take, ◌≡◌}
use Rattle.mig_drain.proofs.receivers.first_places.Given as goal

abbrev pub invariant-loop-receiver : goal.invariant-loop-receiver
invariant-loop-receiver l = l.places.items ≡ take l.items (receiver_places l.rounds (take l.receiver-index l.receivers))

use Rattle.mig_check.proofs.Common.{Spot, has_spot, list_any, same_spot, take, ◌≡◌}
use Rattle.mig_check.proofs.taken.take_all.Given as goal

abbrev pub invariant-loop-spot : goal.invariant-loop-spot
invariant-loop-spot l = (t : Spot) → has_spot l.taken t ≡ list_any (λ s. same_spot s t) (take l.spot-index l.spots)

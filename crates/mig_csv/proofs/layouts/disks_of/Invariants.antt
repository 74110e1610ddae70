use Rattle.mig_csv.proofs.Common.{map, take, ◌≡◌}
use Rattle.mig_csv.proofs.layouts.disks_of.Given as goal

abbrev pub invariant-loop-spot : goal.invariant-loop-spot
invariant-loop-spot l = l.disks.items ≡ map (λ spot. spot.disk) (take l.spot-index l.spots)

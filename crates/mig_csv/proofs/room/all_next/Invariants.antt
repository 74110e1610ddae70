use Rattle.mig_csv.proofs.Common.{Some, map, take, ◌≡◌}
use Rattle.mig_csv.proofs.room.all_next.Given as goal

abbrev pub invariant-loop-place : goal.invariant-loop-place
invariant-loop-place l = map (λ d. Some d) l.disks.items ≡ take l.place-index l.next

use Rattle.mig_sides.proofs.Common.{AreNear, length, take, ◌≡◌}
use Rattle.mig_sides.proofs.neighbours.neighbours_of.Given as goal

abbrev pub invariant-loop-edge : goal.invariant-loop-edge
invariant-loop-edge l = record { len : length l.near.items ≡ length l.graph.disks; near : AreNear (take l.edge l.graph.transfers) l.near.items }

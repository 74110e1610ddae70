use Rattle.mig_bounds.proofs.Common.{CountsPairs, length, take}
use Rattle.mig_bounds.proofs.pairs.pairs_of.Given as goal

abbrev pub invariant-loop-edge : goal.invariant-loop-edge
invariant-loop-edge l = CountsPairs (length l.graph.disks) (take l.edge l.graph.transfers) l.pairs.items

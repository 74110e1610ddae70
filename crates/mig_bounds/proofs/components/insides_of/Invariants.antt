use Rattle.mig_bounds.proofs.Common.{AreInsides, take}
use Rattle.mig_bounds.proofs.components.insides_of.Given as goal

abbrev pub invariant-loop-edge : goal.invariant-loop-edge
invariant-loop-edge l = AreInsides l.labels (take l.edge l.graph.transfers) l.insides.items

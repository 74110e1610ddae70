use Rattle.mig_bounds.proofs.Common.{IsLabelling}
use Rattle.mig_bounds.proofs.labels.labels_of.Given as goal

abbrev pub invariant-loop-edge : goal.invariant-loop-edge
invariant-loop-edge l = IsLabelling l.graph l.labels.items l.edge

use Rattle.mig_sides.proofs.Common.{IsApartFrom, disk_on, ℕ, ◌<◌}
use Rattle.mig_sides.proofs.trees.met.Given as goal

abbrev pub invariant-loop-other : goal.invariant-loop-other
invariant-loop-other l = (k : ℕ) → k < l.other-index → IsApartFrom l.node l.nodes (disk_on l.near k)

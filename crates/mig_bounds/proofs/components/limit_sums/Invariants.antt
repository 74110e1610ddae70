use Rattle.mig_bounds.proofs.Common.{AreLimitSums}
use Rattle.mig_bounds.proofs.components.limit_sums.Given as goal

abbrev pub invariant-loop-disk : goal.invariant-loop-disk
invariant-loop-disk l = AreLimitSums l.graph l.labels l.disk l.sums.items

use Rattle.mig_bounds.proofs.Common.{IsFirstSide, ◌*◌}
use Rattle.mig_bounds.proofs.sides.best_side.Given as goal

abbrev pub invariant-loop-disk : goal.invariant-loop-disk
invariant-loop-disk l = IsFirstSide l.graph l.best (2 * l.disk)

use Rattle.mig_bounds.proofs.Common.{IsBestOf, [], ◌∷◌}
use Rattle.mig_bounds.proofs.components.best_component.Given as goal

abbrev pub invariant-loop-root : goal.invariant-loop-root
invariant-loop-root l = IsBestOf l.graph l.components l.best (2 ∷ l.root ∷ [])

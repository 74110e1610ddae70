use Rattle.mig_bounds.proofs.Common.{IsBestSmall, [], ◌∷◌}
use Rattle.mig_bounds.proofs.triples.best_pair.Given as goal

abbrev pub invariant-loop-b : goal.invariant-loop-b
invariant-loop-b l = IsBestSmall l.graph l.best (1 ∷ l.a ∷ l.b ∷ [])

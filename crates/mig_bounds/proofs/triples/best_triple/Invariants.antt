use Rattle.mig_bounds.proofs.Common.{IsBestSmall, [], ◌∷◌}
use Rattle.mig_bounds.proofs.triples.best_triple.Given as goal

abbrev pub invariant-loop-a : goal.invariant-loop-a
invariant-loop-a l = IsBestSmall l.graph l.best (1 ∷ l.a ∷ [])

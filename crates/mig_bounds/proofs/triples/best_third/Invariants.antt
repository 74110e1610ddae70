use Rattle.mig_bounds.proofs.Common.{IsBestSmall, [], ◌∷◌}
use Rattle.mig_bounds.proofs.triples.best_third.Given as goal

abbrev pub invariant-loop-c : goal.invariant-loop-c
invariant-loop-c l = IsBestSmall l.graph l.best (1 ∷ l.a ∷ l.b ∷ l.c ∷ [])

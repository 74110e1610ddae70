use Rattle.mig_bounds.proofs.Common.{[], candidate_of, ◌∷◌}
use Rattle.mig_bounds.proofs.Pruning.{no_better_third}
use Rattle.mig_bounds.proofs.Steps.{IsBestBelow-skips}
use Rattle.mig_bounds.proofs.triples.best_third.Goals as goal

pub returns-then-is_too_little : goal.returns-then-is_too_little
returns-then-is_too_little c =
    let g = c.args.graph.now in
    let best = candidate_of c.args.best.set in
    IsBestBelow-skips g best c.args.best.value c.args.a c.args.b (λ z is. no_better_third g best c.args.tops.now c.args.best.value c.args.a c.args.b z (c.args.a ∷ c.args.b ∷ []) c.is_too_little.ensures.valid c.requires.before c.requires.tops (c.is_too_little.ensures.little.0 c.if-is_too_little.true) is) c.requires.before

use Rattle.mig_bounds.proofs.Common.{ByTriple, IsBestBelow, List, SmallSet, [], ap, candidate_of, inside, numbers, set_value, subst, sym, ℕ, ◌∙◌, ◌∷◌, ◌≡◌}
use Rattle.mig_bounds.proofs.Bests.{IsBest-whole}
use Rattle.mig_bounds.proofs.bounds.small_bound.Goals as goal

pub returns-in_ok-vec-in-Triple : goal.returns-in_ok-vec-in-Triple
returns-in_ok-vec-in-Triple c =
    let g = c.args.graph.now in
    let x = c.in-Triple.a.0 in
    let y = c.in-Triple.b.0 in
    let z = c.in-Triple.c.0 in
    let set : List ℕ = x ∷ y ∷ z ∷ [] in
    let best = subst (λ (s : SmallSet). IsBestBelow g (candidate_of s) c.args.best.value (3 ∷ [])) c.in-Triple.is c.requires.best in
    let names : numbers c.of.result ≡ set = ap numbers (c.of.ensures ∙ c.in_ok-vec-in-Triple.ensures.items) in (
      ByTriple x y z,
      names,
      IsBest-whole g (ByTriple x y z) c.args.best.value c.requires.joint best,
      record {
        loads = c.inside_three.ensures.inside ∙ ap (λ (s : List ℕ). inside s g.transfers) (sym names);
        values = best.value_is ∙ ap (λ (s : List ℕ). set_value g s) (sym names);
      },
    )

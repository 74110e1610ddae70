use Rattle.mig_bounds.proofs.Common.{ByTriple, [], arith, between, candidate_of, div_ceil-le, inl, inr, sym, ◌+◌, ◌/◌, ◌<◌, ◌∙◌, ◌∷◌, ◌≡◌, ◌⊎◌}
use Rattle.mig_bounds.proofs.Pruning.{between_comm, joined_takes_part, no_better_triple}
use Rattle.mig_bounds.proofs.Steps.{IsBestBelow-keeps, IsBestBelow-takes, below_next, div_ceil-gt, set_value-half}
use Rattle.mig_bounds.proofs.triples.better_triple.Goals as goal
use Rattle.mig_bounds.proofs.triples.better_triple.Goals.{then-pair-eq0-via-then-pair-eq0, then-pair-eq0-via-else-pair-eq0+then-pair-eq0-2}

pub returns-then-pair-eq0 : goal.returns-then-pair-eq0
returns-then-pair-eq0 c =
    let g = c.args.graph.now in
    let best = candidate_of c.args.best.set in
    let apart : (between c.args.a c.args.b g.transfers ≡ 0) ⊎ ((between c.args.a c.args.c g.transfers ≡ 0) ⊎ (between c.args.b c.args.c g.transfers ≡ 0)) = inr (elim c.then-pair-eq0.branch [
      | then-pair-eq0-via-then-pair-eq0 w ↦ inl (sym c.pair.ensures.count ∙ w.if-pair-eq0.true)
      | then-pair-eq0-via-else-pair-eq0+then-pair-eq0-2 w ↦ inr (sym w.pair-else-pair-eq0.ensures.count ∙ w.if-pair-eq0-2.true)
    ]) in
    IsBestBelow-keeps g best c.args.best.value c.args.a c.args.b c.args.c (no_better_triple g best c.args.best.value c.args.a c.args.b c.args.c (c.args.a ∷ c.args.b ∷ c.args.c ∷ []) c.pair.ensures.valid c.requires.before apart) c.requires.before

pub returns-then-sum-eq0 : goal.returns-then-sum-eq0
returns-then-sum-eq0 c =
    IsBestBelow-keeps c.args.graph.now (candidate_of c.args.best.set) c.args.best.value c.args.a c.args.b c.args.c (λ cand. absurd (omega (arith, cand.6, c.if-sum-eq0.true, c.sum_of_three-sum.ensures.sum))) c.requires.before

pub returns-then-from : goal.returns-then-from
returns-then-from c =
    let g = c.args.graph.now in
    let sum = c.sum_of_three-sum in
    let i = c.inside_three-inside in
    let half : 0 < sum.result / 2 = omega (arith, sum.ensures.least) in
    let e = set_value-half g (c.args.a ∷ c.args.b ∷ c.args.c ∷ []) sum.result i.result sum.ensures.sum i.ensures.inside half in
    let le = div_ceil-le i.result (sum.result / 2) c.args.best.value half (rw (← c.from.ensures, ← c.from-2.ensures, ← c.from-3.ensures) c.if-from.true) in
    IsBestBelow-keeps g (candidate_of c.args.best.set) c.args.best.value c.args.a c.args.b c.args.c (λ cand. omega (arith, e, le)) c.requires.before

pub returns : goal.returns
returns c =
    let g = c.args.graph.now in
    let sum = c.sum_of_three-sum in
    let i = c.inside_three-inside in
    let half : 0 < sum.result / 2 = omega (arith, sum.ensures.least) in
    let e = set_value-half g (c.args.a ∷ c.args.b ∷ c.args.c ∷ []) sum.result i.result sum.ensures.sum i.ensures.inside half in
    let gt = div_ceil-gt i.result (sum.result / 2) c.args.best.value half (rw (← c.from.ensures, ← c.from-2.ensures, ← c.from-3.ensures) c.if-from.false) in
    let part_a = joined_takes_part g c.args.a c.args.c (λ none. c.if-pair-eq0.false (c.pair.ensures.count ∙ none)) in
    let part_b = joined_takes_part g c.args.b c.args.c (λ none. c.if-pair-eq0-2.false (c.pair-else-pair-eq0.ensures.count ∙ none)) in
    let part_c = joined_takes_part g c.args.c c.args.a (λ none. c.if-pair-eq0.false (c.pair.ensures.count ∙ between_comm c.args.a c.args.c g.transfers ∙ none)) in
    IsBestBelow-takes g (candidate_of c.args.best.set) (ByTriple c.args.a c.args.b c.args.c) c.args.best.value c.div_ceil.result (1 ∷ c.args.a ∷ c.args.b ∷ c.args.c ∷ []) (1 ∷ c.args.a ∷ c.args.b ∷ (c.args.c + 1) ∷ [])
    (c.requires.order_ab, c.requires.order_bc, c.requires.there, part_a, part_b, part_c, omega (arith, c.if-sum-eq0.false, sum.ensures.sum))
    (c.div_ceil.ensures ∙ sym e)
    (omega (arith, gt, c.div_ceil.ensures))
    (λ d is below. below_next d c.args.a c.args.b c.args.c below)
    (λ d below. below)
    c.requires.before

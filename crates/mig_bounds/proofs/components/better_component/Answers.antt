use Rattle.mig_bounds.proofs.Common.{ByComponent, IsJointCandidate, IsTrue, List, Transfers, ap, arith, candidate_by, differ, div_ceil-le, get_or, get_or_default, inl, inr}
use Rattle.mig_bounds.proofs.Common.{inside, labelled, length, limit_sum, load, not_none, set, set_value, sym, takes_part, value, ℕ, ◌/◌, ◌<◌, ◌∙◌, ◌≡◌, ◌≤◌}
use Rattle.mig_bounds.proofs.ComponentSets.{IsBestBelow-keeps_label, IsBestBelow-takes_label}
use Rattle.mig_bounds.proofs.Steps.{div_ceil-gt, set_value-half}
use Rattle.mig_bounds.proofs.components.better_component.Goals as goal
use Rattle.mig_bounds.proofs.components.better_component.Goals.{then-index-root-via-then-index-root, then-index-root-via-else-index-root+then-load-eq0}

-- a set whose limits have no half has the value 0
halfless : (graph : Transfers) (set : List ℕ) (rounds : ℕ) → limit_sum graph set / 2 ≡ 0 → set_value graph set ≤ rounds
halfless graph set rounds none = rw none (omega arith)

pub returns-then-index-root : goal.returns-then-index-root
returns-then-index-root c =
    let g = c.args.graph.now in
    let labels = c.args.components.now.labels.items in
    let r = c.args.root in
    let parts = c.requires.components in
    let there : r < length labels = omega (arith, c.requires.there, parts.labelling.len) in
    let label = c.index.ensures ∙ get_or_default labels r c.index.result.now 0 there in
    let none : get_or labels r 0 ≡ r → IsTrue (takes_part g r) → ⊥ = λ root part. elim c.then-index-root.branch [
      | then-index-root-via-then-index-root w ↦ w.if-index-root.true (label ∙ root)
      | then-index-root-via-else-index-root+then-load-eq0 w ↦ differ (load r g.transfers) 0 part (sym w.load.ensures.load ∙ w.if-load-eq0.true)
    ] in
    IsBestBelow-keeps_label g labels (candidate_by labels c.args.best.witness) c.args.best.value r c.requires.valid parts.labelling (λ root part cand. absurd (none root part)) c.requires.before

pub returns-then-sum-eq0 : goal.returns-then-sum-eq0
returns-then-sum-eq0 c =
    let g = c.args.graph.now in
    let labels = c.args.components.now.labels.items in
    let sums = c.args.components.now.sums.items in
    let r = c.args.root in
    let parts = c.requires.components in
    let set = labelled labels r in
    let sum : c.index-sum.result.now ≡ limit_sum g set = c.index-sum.ensures ∙ get_or_default sums r c.index-sum.result.now 0 (omega (arith, c.requires.there, parts.sums_len)) ∙ parts.sum r c.requires.there in
    let no_better : IsJointCandidate g (ByComponent set) → value g (ByComponent set) ≤ c.args.best.value = λ cand. elim c.then-sum-eq0.either [
      | inl even ↦ absurd (omega (arith, even, sum, cand.1))
      | inr no_half ↦ halfless g set c.args.best.value (ap (λ n. n / 2) (sym sum) ∙ no_half.1)
    ] in
    IsBestBelow-keeps_label g labels (candidate_by labels c.args.best.witness) c.args.best.value r c.requires.valid parts.labelling (λ root part cand. no_better cand) c.requires.before

pub returns-then-from : goal.returns-then-from
returns-then-from c =
    let g = c.args.graph.now in
    let labels = c.args.components.now.labels.items in
    let sums = c.args.components.now.sums.items in
    let insides = c.args.components.now.insides.items in
    let r = c.args.root in
    let parts = c.requires.components in
    let set = labelled labels r in
    let sum : c.index-sum.result.now ≡ limit_sum g set = c.index-sum.ensures ∙ get_or_default sums r c.index-sum.result.now 0 (omega (arith, c.requires.there, parts.sums_len)) ∙ parts.sum r c.requires.there in
    let i : c.index-inside.result.now ≡ inside set g.transfers = c.index-inside.ensures ∙ get_or_default insides r c.index-inside.result.now 0 (omega (arith, c.requires.there, parts.insides_len)) ∙ parts.inside r c.requires.there in
    let half : 0 < c.index-sum.result.now / 2 = omega (arith, c.if-half-eq0.false) in
    let e = set_value-half g set c.index-sum.result.now c.index-inside.result.now sum i half in
    let le = div_ceil-le c.index-inside.result.now (c.index-sum.result.now / 2) c.args.best.value half (rw (← c.from.ensures, ← c.from-2.ensures, ← c.from-3.ensures) c.if-from.true) in
    IsBestBelow-keeps_label g labels (candidate_by labels c.args.best.witness) c.args.best.value r c.requires.valid parts.labelling (λ root part cand. omega (arith, e, le)) c.requires.before

pub returns : goal.returns
returns c =
    let g = c.args.graph.now in
    let labels = c.args.components.now.labels.items in
    let sums = c.args.components.now.sums.items in
    let insides = c.args.components.now.insides.items in
    let r = c.args.root in
    let parts = c.requires.components in
    let set = labelled labels r in
    let there : r < length labels = omega (arith, c.requires.there, parts.labelling.len) in
    let root : get_or labels r 0 ≡ r = sym (c.index.ensures ∙ get_or_default labels r c.index.result.now 0 there) ∙ c.if-index-root.false in
    let part = not_none (load r g.transfers) (λ none. c.if-load-eq0.false (c.load.ensures.load ∙ none)) in
    let sum : c.index-sum.result.now ≡ limit_sum g set = c.index-sum.ensures ∙ get_or_default sums r c.index-sum.result.now 0 (omega (arith, c.requires.there, parts.sums_len)) ∙ parts.sum r c.requires.there in
    let i : c.index-inside.result.now ≡ inside set g.transfers = c.index-inside.ensures ∙ get_or_default insides r c.index-inside.result.now 0 (omega (arith, c.requires.there, parts.insides_len)) ∙ parts.inside r c.requires.there in
    let half : 0 < c.index-sum.result.now / 2 = omega (arith, c.if-half-eq0.false) in
    let e = set_value-half g set c.index-sum.result.now c.index-inside.result.now sum i half in
    let gt = div_ceil-gt c.index-inside.result.now (c.index-sum.result.now / 2) c.args.best.value half (rw (← c.from.ensures, ← c.from-2.ensures, ← c.from-3.ensures) c.if-from.false) in
    IsBestBelow-takes_label g labels (candidate_by labels c.args.best.witness) c.args.best.value c.div_ceil.result r c.requires.valid parts.labelling there root part
    (omega (arith, c.if-sum-eq0.false, sum)) (c.div_ceil.ensures ∙ sym e) (omega (arith, gt, c.div_ceil.ensures)) c.requires.before

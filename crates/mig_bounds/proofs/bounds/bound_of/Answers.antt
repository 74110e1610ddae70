use Rattle.mig_bounds.proofs.Common.{ByComponent, IsBestBelow, List, Witness, [], ap, arith, candidate_by, get_or_default, inside, labelled, length, numbers, set_value, subst, sym, ℕ}
use Rattle.mig_bounds.proofs.Common.{◌<◌, ◌∙◌, ◌∷◌, ◌≡◌}
use Rattle.mig_bounds.proofs.Bests.{IsBest-whole, label_there}
use Rattle.mig_bounds.proofs.bounds.bound_of.Goals as goal

pub index-requires : goal.index-requires
index-requires c =
    let g = c.args.graph.now in
    let labels = c.args.components.now.labels.items in
    let parts = c.requires.components in
    let root = c.in-Component.root in
    let best = subst (λ (w : Witness). IsBestBelow g (candidate_by labels w) c.args.best.value (3 ∷ [])) c.in-Component.is c.requires.best in
    let there = label_there g labels root.0 parts.labelling best.candidate.0.filled in
    omega (arith, there, parts.labelling.len, parts.insides_len, c.args.components.now.insides.ok)

pub returns-in_ok-disks_labelled-in-Component : goal.returns-in_ok-disks_labelled-in-Component
returns-in_ok-disks_labelled-in-Component c =
    let g = c.args.graph.now in
    let labels = c.args.components.now.labels.items in
    let parts = c.requires.components in
    let root = c.in-Component.root in
    let set = labelled labels root.0 in
    let best = subst (λ (w : Witness). IsBestBelow g (candidate_by labels w) c.args.best.value (3 ∷ [])) c.in-Component.is c.requires.best in
    let there : root.0 < length g.disks = omega (arith, label_there g labels root.0 parts.labelling best.candidate.0.filled, parts.labelling.len) in
    let names : numbers c.of.result ≡ set = ap numbers c.of.ensures ∙ c.in_ok-disks_labelled-in-Component.ensures.disks ∙ ap (λ (x : List ℕ). labelled x root.0) c.deref.ensures.value in
    let i : c.index.result.now ≡ inside set g.transfers = c.index.ensures ∙ get_or_default c.args.components.now.insides.items root.0 c.index.result.now 0 (omega (arith, there, parts.insides_len)) ∙ parts.inside root.0 there in (
      ByComponent set,
      names,
      IsBest-whole g (ByComponent set) c.args.best.value c.requires.joint best,
      record {
        loads = i ∙ ap (λ (x : List ℕ). inside x g.transfers) (sym names);
        values = best.value_is ∙ ap (λ (x : List ℕ). set_value g x) (sym names);
      },
    )

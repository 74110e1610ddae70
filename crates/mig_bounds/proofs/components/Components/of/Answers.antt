use Rattle.mig_bounds.proofs.Common.{AreInsides, AreLimitSums, List, ap, arith, eqb, filter, get_or, length, limit_sum, range_with_len, subst, sym, ℕ, ◌∙◌}
use Rattle.mig_bounds.proofs.ComponentCounts.{inside_small}
use Rattle.mig_bounds.proofs.ComponentSets.{inside_labelled}
use Rattle.mig_bounds.proofs.components.Components.of.Goals as goal

pub returns : goal.returns
returns c =
    let g = c.args.graph.now in
    let labels = c.in_ok-labels.labels.items in
    let is = c.in_ok-labels.ensures in
    let valid = c.requires.valid in
    let sums = subst (λ (x : List ℕ). AreLimitSums g x (length g.disks) c.in_ok-sums.sums.items) c.deref.ensures.value c.in_ok-sums.ensures in
    let insides = subst (λ (x : List ℕ). AreInsides x g.transfers c.in_ok-insides.insides.items) c.deref-2.ensures.value c.in_ok-insides.ensures in
    record {
      labelling = is;
      sums_len = sums.len ∙ is.len;
      sum = λ r h. sums.sum r (omega (arith, h, is.len)) ∙ ap (λ n. limit_sum g (filter (λ v. eqb (get_or labels v 0) r) (range_with_len 0 n))) (sym is.len);
      insides_len = insides.len ∙ is.len;
      inside = λ r h. insides.count r (omega (arith, h, is.len)) ∙ sym (inside_labelled g labels r valid is);
      inside_most = λ r h. omega (arith, inside_small labels c.in_ok-insides.insides.items g.transfers r (omega (arith, h, is.len)) insides, valid.edges_most);
    }

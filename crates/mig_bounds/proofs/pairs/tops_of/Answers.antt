use Rattle.mig_bounds.proofs.Common.{List, [], ap, arith, between, cases_lt, get_or, get_or-append_seam, get_or_append_left, inl, inr, length, length-append, sym, ℕ, ◌++◌, ◌<◌, ◌∙◌, ◌∷◌, ◌≡◌}
use Rattle.mig_bounds.proofs.pairs.tops_of.Goals as goal

pub loop-a-preserved : goal.loop-a-preserved
loop-a-preserved c =
    let g = c.args.graph.now in
    let old = c.loop-a.tops.items in
    let top = c.top_of.result in
    let is : c.push.new.self.items ≡ old ++ top ∷ [] = c.in_ok-push.ensures.items in
    let before : (a : ℕ) → a < c.loop-a.a → get_or c.push.new.self.items a 0 ≡ get_or old a 0 = λ a h. ap (λ (xs : List ℕ). get_or xs a 0) is ∙ get_or_append_left old (top ∷ []) 0 a (omega (arith, h, c.loop-a.invariant.len)) in
    let here : get_or c.push.new.self.items c.loop-a.a 0 ≡ top = ap (λ (xs : List ℕ). get_or xs c.loop-a.a 0) is ∙ ap (λ k. get_or (old ++ top ∷ []) k 0) (sym c.loop-a.invariant.len) ∙ get_or-append_seam old top [] 0 in
    record {
      len = omega (arith, ap (λ (xs : List ℕ). length xs) is, length-append old (top ∷ []), c.loop-a.invariant.len);
      above = λ a b h there. elim (cases_lt a c.loop-a.a) [
        | inl lt ↦ omega (arith, before a lt, c.loop-a.invariant.above a b lt there)
        | inr ge ↦ (let same : a ≡ c.loop-a.a = omega (arith, ge, h) in omega (arith, ap (λ k. get_or c.push.new.self.items k 0) same, here, ap (λ k. between k b g.transfers) same, c.top_of.ensures.above b there))
      ];
      most = λ a h. elim (cases_lt a c.loop-a.a) [
        | inl lt ↦ omega (arith, before a lt, c.loop-a.invariant.most a lt)
        | inr ge ↦ (let same : a ≡ c.loop-a.a = omega (arith, ge, h) in omega (arith, ap (λ k. get_or c.push.new.self.items k 0) same, here, c.top_of.ensures.most))
      ];
    }

use Rattle.mig_bounds.proofs.Common.{MAX_ITEMS, ap, arith, between, cases_lt, inl, inr, ◌≡◌, ◌≤◌}
use Rattle.mig_bounds.proofs.pairs.top_of.Goals as goal
use Rattle.mig_bounds.proofs.pairs.top_of.Goals.{then-top-joined, else-top-joined}

pub loop-b-preserved : goal.loop-b-preserved
loop-b-preserved c =
    let g = c.args.graph.now in
    let old : c.loop-b.top ≤ c.if-top-joined.top = elim c.if-top-joined.branch [ then-top-joined w ↦ omega (arith, w.top-is, w.if-top-joined.true) | else-top-joined w ↦ omega (arith, w.top-is) ] in
    let new : c.pair-joined.result ≤ c.if-top-joined.top = elim c.if-top-joined.branch [ then-top-joined w ↦ omega (arith, w.top-is) | else-top-joined w ↦ omega (arith, w.top-is, w.if-top-joined.false) ] in
    let most : c.if-top-joined.top ≤ MAX_ITEMS = elim c.if-top-joined.branch [ then-top-joined w ↦ omega (arith, w.top-is, c.pair-joined.ensures.most) | else-top-joined w ↦ omega (arith, w.top-is, c.loop-b.invariant.most) ] in
    record {
      above = λ b h. elim (cases_lt b c.loop-b.b) [
        | inl lt ↦ omega (arith, c.loop-b.invariant.above b lt, old)
        | inr ge ↦ (let same : b ≡ c.loop-b.b = omega (arith, ge, h) in omega (arith, ap (λ n. between c.args.a n g.transfers) same, c.pair-joined.ensures.count, new))
      ];
      most = most;
    }

use Rattle.mig_duplex.proofs.Common.{Bool, Colour, Global, IfOk-weaker, IsLimited, IsSpread, List, Vec, ap, arith, false, get_or-replicate, is_forward, length, length-replicate, quotient}
use Rattle.mig_duplex.proofs.Common.{replicate, rules, subst, true, ℕ, ◌<◌, ◌∙◌, ◌≡◌}
use Rattle.mig_duplex.proofs.Quotients.{has_ranges, quotient_most, quotient_some}
use Rattle.mig_duplex.proofs.Spread.{spread_split}
use Rattle.mig_duplex.proofs.colourings.colour_duplex.Goals as goal

pub colour_spread-requires-clause-some : goal.colour_spread-requires-clause-some
colour_spread-requires-clause-some c =
    let graph = c.args.graph.now in
    let valid = c.edges.ensures.valid in
    omega (arith, c.quotient.ensures, quotient_some graph (has_ranges graph valid) valid.leaves_there (omega (arith, c.edges.ensures.edges, c.if-edges-eq0.false)))

pub colour_spread-requires-clause-few : goal.colour_spread-requires-clause-few
colour_spread-requires-clause-few c = omega (arith, c.quotient.ensures, quotient_most c.args.graph.now (has_ranges c.args.graph.now c.edges.ensures.valid))

pub returns : goal.returns
returns c =
    let graph = c.args.graph.now in
    let valid = c.edges.ensures.valid in
    let ds = c.in_ok-forward.forward.items in
    let m = c.edges-2.result in
    let some : 0 < length graph.transfers = omega (arith, c.edges.ensures.edges, c.if-edges-eq0.false) in
    let all_true : ds ≡ replicate m true = search rules in
    let len : length ds ≡ length graph.transfers = ap (λ (xs : List Bool). length xs) all_true ∙ length-replicate m true ∙ c.edges-2.ensures.edges in
    let forward : (k : ℕ) → k < length graph.transfers → is_forward ds k ≡ true = λ k h.
    ap (λ (xs : List Bool). is_forward xs k) all_true ∙ get_or-replicate m k true false (omega (arith, h, c.edges-2.ensures.edges)) in
    IfOk-weaker c.colour_spread.result (λ (v : Vec Colour Global). IsSpread graph c.quotient.result c.deref.result.now v.items) (λ (v : Vec Colour Global). IsLimited graph (quotient graph) v.items)
    (λ v h. spread_split graph ds v.items valid c.requires (quotient_some graph (has_ranges graph valid) valid.leaves_there some) len forward (subst (λ n. IsSpread graph n ds v.items) c.quotient.ensures (subst (λ (xs : List Bool). IsSpread graph c.quotient.result xs v.items) c.deref.ensures.value h)))
    c.colour_spread.ensures

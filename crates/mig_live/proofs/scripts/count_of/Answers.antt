use Rattle.mig_live.proofs.Common.{[], arith, decimal, decimal_injective, sym, ◌∙◌, ◌∷◌, ◌≡◌}
use Rattle.mig_live.proofs.scripts.count_of.Goals as goal

pub returns-then-count-eq0 : goal.returns-then-count-eq0
returns-then-count-eq0 c = λ n low high is.
    let both : decimal n ∷ [] ≡ decimal c.in_ok-count.count ∷ [] = sym is ∙ c.in_ok-count.ensures.1 in
    let spelled : decimal n ≡ decimal c.in_ok-count.count = cc in
    let same : n ≡ c.in_ok-count.count = decimal_injective n c.in_ok-count.count (omega (arith, high)) (omega (arith, c.in_ok-count.ensures.0)) spelled in
    omega (arith, same, low, c.if-count-eq0.true)

use Rattle.mig_plan.proofs.Common.{Bool, List, Separates, arith, side_of, subst, sym}
use Rattle.mig_duplex.proofs.Quotients.{has_ranges, quotient_some}
use Rattle.mig_plan.proofs.Limits.{even_fits}
use Rattle.mig_plan.proofs.TwoSides.{across_fits}
use Rattle.mig_plan.proofs.directions.directions_for.Goals as goal

pub returns-then-all_even-clause-fit : goal.returns-then-all_even-clause-fit
returns-then-all_even-clause-fit c =
    let graph = c.args.graph.now in
    let valid = c.keeps_rules.ensures in
    let limits = has_ranges graph valid in
    let some = quotient_some graph limits valid.leaves_there c.requires.some in
    let e = c.in_ok-orient.ensures in
    even_fits graph c.in_ok-orient.field-0.items some limits (c.all_even.ensures.0 c.if-all_even.true) (omega (arith, e.one_each)) valid.apart e.balance

-- two sides
pub returns-in-Some-clause-fit : goal.returns-in-Some-clause-fit
returns-in-Some-clause-fit c =
    let graph = c.args.graph.now in
    let valid = c.keeps_rules.ensures in
    let limits = has_ranges graph valid in
    let some = quotient_some graph limits valid.leaves_there c.requires.some in
    let e = c.in_ok-across.ensures in
    let same = c.deref.ensures.value in
    across_fits graph (side_of c.deref.result.now) c.in_ok-across.field-0.items some limits
    (subst (λ (s : List Bool). Separates (side_of s) graph) (sym same) (rw c.in-Some.is at c.in_ok-sides.ensures.apart))
    (omega (arith, e.one_each)) valid.apart e.leads

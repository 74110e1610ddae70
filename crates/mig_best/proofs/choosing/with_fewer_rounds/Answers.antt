use Rattle.mig_best.proofs.Common.{Because, Err, GoesToTargets, HasNoEmptyRound, IfOk, InputLists, IsInput, IsPlanOf, IsWithinLowered, List, Ok, Once, PlanFits, Result, Runs, Shift, Transfers, ap, arith}
use Rattle.mig_best.proofs.Common.{length, lowered_quotient, plan_made, quotient, subst, transfer_graph, ℕ, ◌<◌, ◌∙◌, ◌≡◌, ◌≤◌}
use Rattle.mig_best.proofs.choosing.with_fewer_rounds.Goals as goal

-- what holds of a plan of fewer rounds if there is one
if_made : {E : Type 0} (input : InputLists) (graph : Transfers) (plan : List (List Shift)) (n : ℕ) (r : Result (List (List Shift)) E) → IsInput input → graph ≡ transfer_graph input → IsPlanOf input plan → n < length plan
    → IfOk r (PlanFits input) → IfOk r (Runs input) → IfOk r (Once input) → IfOk r (GoesToTargets input) → IfOk r HasNoEmptyRound → IfOk r (λ p. length p ≤ n) → IfOk r (IsPlanOf input)
if_made input graph plan n (Err x) valid is planned fewer fits runs once targets filled few = tt
if_made input graph plan n (Ok p) valid is planned fewer fits runs once targets filled few =
    plan_made input graph p n valid is fits runs once targets filled few
    (λ why holds. omega (arith, fewer, planned.tight why (subst (Because why) is holds), ap quotient is))
    (omega (arith, fewer, planned.most, ap quotient is))

within : {E : Type 0} (input : InputLists) (graph : Transfers) (n : ℕ) (r : Result (List (List Shift)) E) → graph ≡ transfer_graph input → n ≡ lowered_quotient graph → IfOk r (λ p. length p ≤ n) → IfOk r (IsWithinLowered input)
within input graph n (Err x) is rounds few = tt
within input graph n (Ok p) is rounds few = λ lowerable. omega (arith, few, rounds ∙ ap lowered_quotient is)

fewer_left : {E : Type 0} (n : ℕ) (plan : List (List Shift)) (r : Result (List (List Shift)) E) → n < length plan → IfOk r (λ p. length p ≤ n) → IfOk r (λ best. length best ≤ length plan)
fewer_left n plan (Err x) fewer few = tt
fewer_left n plan (Ok p) fewer few = omega (arith, fewer, few)

-- the plan by lowered limits is taken
pub returns : goal.returns
returns c =
    let input = c.args.input.now in
    let made = c.make_lowered_plan.ensures in
    let fewer : c.in-Some.rounds < length c.args.plan = omega (arith, c.if-rounds.false, ap (λ (p : List (List Shift)). length p) c.rounds.ensures) in
    record {
      planned = if_made input c.args.graph.now c.args.plan c.in-Some.rounds c.make_lowered_plan.result c.keeps_rules.ensures c.requires.graph c.requires.planned fewer made.fits made.runs made.once made.targets made.filled made.few;
      lowered = within input c.args.graph.now c.in-Some.rounds c.make_lowered_plan.result c.requires.graph c.in-Some.ensures.quotient made.few;
      fewest = fewer_left c.in-Some.rounds c.args.plan c.make_lowered_plan.result fewer made.few;
    }

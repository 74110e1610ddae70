use Rattle.mig_plan.proofs.Common.{Err, GoesToTargets, HasNoEmptyRound, IfOk, InputLists, IsPlanOf, List, Ok, Once, PlanFits, Result, Runs, Shift, length, ℕ, ◌≤◌}
use Rattle.mig_plan.proofs.Least.{plan_made}
use Rattle.mig_plan.proofs.plans.plan_moves.Goals as goal

-- what holds of a plan if there is one, together
if_made : {E : Type 0} (input : InputLists) (n : ℕ) (r : Result (List (List Shift)) E) → ((p : List (List Shift)) → PlanFits input p → Runs input p → Once input p → GoesToTargets input p → HasNoEmptyRound p → length p ≤ n → IsPlanOf input p) → IfOk r (PlanFits input) → IfOk r (Runs input) → IfOk r (Once input) → IfOk r (GoesToTargets input) → IfOk r HasNoEmptyRound → IfOk r (λ p. length p ≤ n) → IfOk r (IsPlanOf input)
if_made input n (Ok p) f a b d e g h = f p a b d e g h
if_made input n (Err x) f a b d e g h = tt

pub returns : goal.returns
returns c =
    let input = c.args.input.now in
    let e = c.plan_of.ensures in
    record {
      planned = if_made input c.in_ok-colours.count c.plan_of.result
          (λ p fits runs once targets filled few. plan_made input c.args.graph.now p c.in_ok-colours.count c.keeps_rules.ensures c.requires.graph fits runs once targets filled few c.in_ok-colours.ensures.tight c.in_ok-colours.ensures.most)
          e.fits e.runs e.once e.targets e.filled e.few;
    }

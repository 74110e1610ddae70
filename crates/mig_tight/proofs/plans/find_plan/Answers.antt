use Rattle.mig_tight.proofs.Common.{IsTightPlan, List, Shift, false≢true, subst, sym, ◌∙◌}
use Rattle.mig_tight.proofs.Endings.{tight_nothing}
use Rattle.mig_tight.proofs.plans.find_plan.Goals as goal

pub returns-then-not-has_move-clause-tight : goal.returns-then-not-has_move-clause-tight
returns-then-not-has_move-clause-tight c =
    let P : List (List Shift) → Type 0 = λ plan. IsTightPlan c.args.input.now plan in
    subst P (sym (c.of.ensures ∙ c.new.ensures.items)) (tight_nothing c.args.input.now c.keeps_rules.ensures (c.if-not-has_move.ensures.stays false≢true))

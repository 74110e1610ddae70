use Rattle.mig_tight.proofs.Common.{IsTightPlan, List, Shift, arith, subst, sym}
use Rattle.mig_tight.proofs.Counts.{all_on_next}
use Rattle.mig_tight.proofs.Endings.{tight_end, plan_fits}
use Rattle.mig_tight.proofs.plans.plan_over.Goals as goal

pub returns-clause-tight : goal.returns-clause-tight
returns-clause-tight c =
    let input = c.args.input.now in
    let is = c.keeps_rules.ensures in
    let s = c.clear_all.new.self in
    let st = c.in_ok-clear_all.ensures.sound in
    let P : List (List Shift) → Type 0 = λ plan. IsTightPlan input plan in
    subst P (sym c.into_plan.ensures) (tight_end input is s st (all_on_next input is s st c.in_ok-clear_all.ensures.unawaited c.requires.fits c.in_ok-clear_all.ensures.cleared))

pub returns-clause-spelled : goal.returns-clause-spelled
returns-clause-spelled c = grind (arith, plan_fits)

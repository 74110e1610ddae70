use Rattle.mig_top.proofs.EndsOf.{files_finish}
use Rattle.mig_top.proofs.StoreEnds.{untouched}
use Rattle.mig_top.proofs.top.finish.Goals as goal

pub returns-in-Plan : goal.returns-in-Plan
returns-in-Plan g c = rw c.in-Plan.is (files_finish _ _ _ _ tt (λ o h. h) (λ o left. (left, untouched)) c.run_plan.result c.run_plan.ensures)

pub returns-in-PlanTight : goal.returns-in-PlanTight
returns-in-PlanTight g c =
    rw c.in-PlanTight.is (files_finish _ _ _ _ tt (λ o h. h) (λ o left. (left, untouched)) c.run_plan_tight.result c.run_plan_tight.ensures)

pub returns-in-Check : goal.returns-in-Check
returns-in-Check g c = rw c.in-Check.is (files_finish _ _ _ _ tt (λ o h. h) (λ o left. (left, untouched)) c.run_check.result c.run_check.ensures)

pub returns-in-After : goal.returns-in-After
returns-in-After g c = rw c.in-After.is (files_finish _ _ _ _ tt (λ o h. h) (λ o left. (left, untouched)) c.run_after.result c.run_after.ensures)

pub returns-in-Drill : goal.returns-in-Drill
returns-in-Drill g c = rw c.in-Drill.is (files_finish _ _ _ _ tt (λ o h. h) (λ o left. (left, untouched)) c.run_drill.result c.run_drill.ensures)

pub returns-in-Drain : goal.returns-in-Drain
returns-in-Drain g c = rw c.in-Drain.is (files_finish _ _ _ _ tt (λ o h. h) (λ o left. (left, untouched)) c.run_drain.result c.run_drain.ensures)

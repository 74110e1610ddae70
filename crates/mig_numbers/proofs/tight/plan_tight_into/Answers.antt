use Rattle.mig_numbers.proofs.Common.{InputLists, IsTightPlan, length, moves, parked, subst, ◌+◌, ◌≡◌}
use Rattle.mig_numbers.proofs.TightRows.{hands_tight}
use Rattle.mig_numbers.proofs.tight.plan_tight_into.Goals as goal

pub returns-in-Ok-tight_plan-clause-planned : goal.returns-in-Ok-tight_plan-clause-planned
returns-in-Ok-tight_plan-clause-planned c =
    let plan = c.in-Ok-tight_plan.plan in
    let read = c.in-Ok.ensures in
    let made = subst (λ (i : InputLists). IsTightPlan i plan) read.input c.in-Ok-tight_plan.ensures.tight in
    let parks = subst (λ (i : InputLists). length plan ≡ length (moves i) + parked i plan) read.input c.in-Ok-tight_plan.ensures.parked in
    hands_tight c.args.split c.args.disks.now c.args.items.now plan made parks read.there
    c.args.shifts.now c.write_plan.new.rows c.write_plan.result c.write_plan.ensures

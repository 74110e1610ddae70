use Rattle.mig_tight.proofs.Common.{HasNoPlanUnlessMemory, IfErr-weaker, IsTightCause}
use Rattle.mig_tight.proofs.Endings.{no_plan, too_many, no_free, parked_rounds}
use Rattle.mig_tight.proofs.plans.tight_plan.Goals as goal

pub returns-clause-too_many : goal.returns-clause-too_many
returns-clause-too_many c = too_many c.args.input.now c.keeps_rules.ensures c.find_plan.result c.find_plan.ensures.tight c.find_plan.ensures.cause

pub returns-clause-no_free : goal.returns-clause-no_free
returns-clause-no_free c = no_free c.args.input.now c.keeps_rules.ensures c.find_plan.result c.find_plan.ensures.tight c.find_plan.ensures.cause

pub returns-clause-no_plan : goal.returns-clause-no_plan
returns-clause-no_plan c = IfErr-weaker c.find_plan.result (IsTightCause c.args.input.now) (HasNoPlanUnlessMemory c.args.input.now) (no_plan c.args.input.now c.keeps_rules.ensures) c.find_plan.ensures.cause

pub returns-clause-parked : goal.returns-clause-parked
returns-clause-parked c = parked_rounds c.args.input.now c.keeps_rules.ensures c.find_plan.result c.find_plan.ensures.tight c.find_plan.ensures.spelled

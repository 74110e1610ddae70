use Rattle.mig_check.proofs.Common.{IfErr, IsRunBlame, List, Shift, subst}
use Rattle.mig_check.proofs.BlameCases.{only_memory}
use Rattle.mig_check.proofs.running.runs.Goals as goal

pub returns-clause-blameless : goal.returns-clause-blameless
returns-clause-blameless c = only_memory c.args.input.now c.args.plan.now c.check_plan.result (subst (λ (p : List (List Shift)). IfErr c.check_plan.result (IsRunBlame c.args.input.now p)) c.rounds.ensures c.check_plan.ensures.blame)

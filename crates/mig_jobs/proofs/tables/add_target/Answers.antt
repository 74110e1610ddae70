use Rattle.mig_jobs.proofs.Common.{List, Spot, ap, append-nil, sym, ◌++◌, ◌∙◌}
use Rattle.mig_jobs.proofs.TableSteps.{target_added, target_passed}
use Rattle.mig_jobs.proofs.tables.add_target.Goals as goal

pub returns-then-contains : goal.returns-then-contains
returns-then-contains c = sym (append-nil c.args.targets.now.items) ∙ ap (λ (l : List Spot). c.args.targets.now.items ++ l) (sym (target_passed c.args.table.now c.args.s.now c.contains.result c.contains.ensures c.if-contains.true))

pub returns : goal.returns
returns c = c.in_ok-push.ensures.items ∙ ap (λ (l : List Spot). c.args.targets.now.items ++ l) (sym (target_added c.args.table.now c.args.s.now c.contains.result c.contains.ensures c.if-contains.false))

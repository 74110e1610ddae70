use Rattle.mig_text.proofs.Common.{MatchResult-weaker, err_from_is_err_and}
use Rattle.mig_text.proofs.PlanReads.{title_stops, total_stops}
use Rattle.mig_text.proofs.plan_read.take_opening.Goals as goal

pub returns-in_err-take_fixed-clause-line : goal.returns-in_err-take_fixed-clause-line
returns-in_err-take_fixed-clause-line c =
    let q = err_from_is_err_and c.from_residual.result c.from_residual.ensures.1 in
    rw (q.1, q.2) (λ input. title_stops input c.args.lines.now _ c.in_err-take_fixed.ensures.err)

pub returns-clause-line : goal.returns-clause-line
returns-clause-line c = MatchResult-weaker c.take_count.result c.take_count.ensures.err (λ x u. u) (λ e m input. total_stops input _ _ e c.in_ok-take_fixed.ensures.ok m)

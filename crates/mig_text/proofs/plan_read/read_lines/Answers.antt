use Rattle.mig_text.proofs.Common.{err_from_is_err_and}
use Rattle.mig_text.proofs.PlanReads.{rounds_stop, closing_stops, end_wrong_stops}
use Rattle.mig_text.proofs.plan_read.read_lines.Goals as goal

pub returns-in_err-total-clause-line : goal.returns-in_err-total-clause-line
returns-in_err-total-clause-line c =
    let q = err_from_is_err_and c.from_residual.result c.from_residual.ensures.1 in
    rw (q.1, q.2) (c.in_err-total.ensures.line c.args.finder.now)

pub returns-in_err-rounds-clause-line : goal.returns-in_err-rounds-clause-line
returns-in_err-rounds-clause-line c =
    let q = err_from_is_err_and c.from_residual-in_err-rounds.result c.from_residual-in_err-rounds.ensures.1 in
    rw (q.1, q.2) (rounds_stop c.args.finder.now c.in_ok-total.total _ _ _ c.in_ok-total.ensures.ok c.in_err-rounds.ensures.line)

pub returns-in_err-take_closing-clause-line : goal.returns-in_err-take_closing-clause-line
returns-in_err-take_closing-clause-line c =
    let q = err_from_is_err_and c.from_residual-in_err-take_closing.result c.from_residual-in_err-take_closing.ensures.1 in
    rw (q.1, q.2) (closing_stops c.args.finder.now c.in_ok-total.total _ _ _ _ _ c.in_ok-total.ensures.ok c.in_ok-rounds.ensures.ok (end_wrong_stops c.args.finder.now _ _ c.in_err-take_closing.ensures.err))

use Rattle.mig_text.proofs.Common.{ap, err_from_is_err_and, is_ok, not, true, ◌∙◌, ◌≡◌}
use Rattle.mig_text.proofs.PlanReads.{head_stops, shift_stops, part_more}
use Rattle.mig_text.proofs.plan_read.take_round.Goals as goal

pub returns-in_err-count-clause-line : goal.returns-in_err-count-clause-line
returns-in_err-count-clause-line c =
    let q = err_from_is_err_and c.from_residual.result c.from_residual.ensures.1 in
    rw (q.1, q.2) (λ left. head_stops _ c.args.number c.args.lines.now _ c.in_err-count.ensures.err left)

pub returns-in_err-shift-clause-line : goal.returns-in_err-shift-clause-line
returns-in_err-shift-clause-line c =
    let q = err_from_is_err_and c.from_residual-in_err-shift.result c.from_residual-in_err-shift.ensures.1 in
    rw (q.1, q.2) (λ left. shift_stops c.args.finder.now c.args.number c.in_ok-count.count c.shifts.counter c.shifts.shifts.items c.args.lines.now c.shifts.lines _ c.shifts.invariant c.shifts-test.true c.in_ok-count.ensures.ok.0 c.in_err-shift.ensures.err left)

pub shifts-preserved : goal.shifts-preserved
shifts-preserved c =
    let ok : is_ok c.push.result ≡ true = c.is_err.ensures.negation ∙ ap not c.if-is_err.false in
    rw (c.push.ensures.items, ok)
    (part_more c.args.finder.now c.args.number c.in_ok-count.count c.shifts.counter c.shifts.shifts.items c.in_ok-shift.shift c.args.lines.now c.shifts.lines c.take_shift.new.lines c.shifts.invariant c.in_ok-shift.ensures.ok.0 c.in_ok-shift.ensures.ok.1)

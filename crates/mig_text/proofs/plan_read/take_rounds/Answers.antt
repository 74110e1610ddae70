use Rattle.mig_text.proofs.Common.{ap, err_from_is_err_and, is_ok, not, true, ◌∙◌, ◌≡◌}
use Rattle.mig_text.proofs.PlanReads.{round_stops, rounds_more}
use Rattle.mig_text.proofs.plan_read.take_rounds.Goals as goal

pub returns-in_err-round-clause-line : goal.returns-in_err-round-clause-line
returns-in_err-round-clause-line c =
    let q = err_from_is_err_and c.from_residual.result c.from_residual.ensures.1 in
    rw (q.1, q.2) (round_stops c.args.finder.now c.loop-k.k c.args.total c.loop-k.rounds.items c.args.lines.now c.loop-k.lines _ c.loop-k.invariant c.loop-k-test.true c.in_err-round.ensures.line)

pub loop-k-preserved : goal.loop-k-preserved
loop-k-preserved c =
    let ok : is_ok c.push.result ≡ true = c.is_err.ensures.negation ∙ ap not c.if-is_err.false in
    rw (c.push.ensures.items, ok)
    (rounds_more c.args.finder.now c.loop-k.k c.loop-k.rounds.items c.in_ok-round.round c.args.lines.now c.loop-k.lines c.take_round.new.lines c.loop-k.invariant c.in_ok-round.ensures.ok)

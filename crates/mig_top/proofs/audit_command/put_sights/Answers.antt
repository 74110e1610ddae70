use Rattle.mig_top.proofs.Common.{AuditStops, HavePutSights, IfErr, arith, subst, sym, ℕ, ◌+◌}
use Rattle.mig_journal.proofs.Steps.{looks_then}
use Rattle.mig_top.proofs.Auditing.{line_more, line_stops}
use Rattle.mig_top.proofs.Steps.{handed}
use Rattle.mig_top.proofs.audit_command.put_sights.Goals as goal

pub loop-item-preserved : goal.loop-item-preserved
loop-item-preserved g c =
    let inv = c.loop-item.invariant in
    let input = c.args.input.now in
    let old = g.S.Store.state c.args.store.now in
    let mid = g.S.Store.state c.loop-item.store in
    let first = g.K.Sink.state c.args.out.now in
    let new = g.K.Sink.state c.put_sight.new.out in
    record {
      put = subst (λ (n : ℕ). HavePutSights input old (c.loop-item.item + 1) first new n) (sym c.count_named-here.ensures)
          (line_more input old mid inv.looks c.loop-item.item first (g.K.Sink.state c.loop-item.out) c.loop-item.here inv.put new c.in_ok-put_sight.field-0 c.in_ok-put_sight.ensures.put);
      looks = looks_then old mid (g.S.Store.state c.put_sight.new.store) inv.looks c.put_sight.ensures.looks;
      later = omega (arith, inv.later, c.put_sight.ensures.later);
      store_later = omega (arith, inv.store_later, c.put_sight.ensures.store_later);
    }

pub returns-in_err-put_sight-clause-stopped : goal.returns-in_err-put_sight-clause-stopped
returns-in_err-put_sight-clause-stopped g c =
    let inv = c.loop-item.invariant in
    let input = c.args.input.now in
    let old = g.S.Store.state c.args.store.now in
    let last = g.S.Store.state c.put_sight.new.store in
    let first = g.K.Sink.state c.args.out.now in
    let new = g.K.Sink.state c.put_sight.new.out in
    handed (λ r. IfErr r (AuditStops input old last first new)) c.from_residual.result c.in_err-put_sight.field-0.0 c.from_residual.ensures.1
    (line_stops input old (g.S.Store.state c.loop-item.store) inv.looks c.loop-item.item first (g.K.Sink.state c.loop-item.out) c.loop-item.here inv.put
    (omega (arith, c.loop-item-test.true, c.item_count-item-end.ensures.count)) last inv.later inv.store_later new c.in_err-put_sight.field-0.0 c.in_err-put_sight.ensures.stopped)

pub returns-in_err-put_sight-clause-looks : goal.returns-in_err-put_sight-clause-looks
returns-in_err-put_sight-clause-looks g c =
    looks_then (g.S.Store.state c.args.store.now) (g.S.Store.state c.loop-item.store) (g.S.Store.state c.put_sight.new.store) c.loop-item.invariant.looks c.put_sight.ensures.looks

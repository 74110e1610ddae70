use Rattle.mig_top.proofs.Common.{InputLists, IsAudit, finds}
use Rattle.mig_top.proofs.EndsOf.{err_is, stopped}
use Rattle.mig_top.proofs.StoreEnds.{unread, untouched}
use Rattle.mig_top.proofs.Auditing.{lines_end, sink_stops, store_stops}
use Rattle.mig_top.proofs.audit_command.run_audit.Goals as goal

pub returns-in_err-input : goal.returns-in_err-input
returns-in_err-input g c =
    let rest = λ (input : InputLists). finds (IsAudit input (g.S.Store.state c.args.store.now)) in
    rw (err_is c.from_residual.ensures.1)
    (stopped _ _ (unread rest (λ o h. h) tt (λ o u. c.load_layout.ensures.same) untouched c.in_err-input.ensures.takes))

pub returns-in-Ok : goal.returns-in-Ok
returns-in-Ok g c =
    let mid = g.K.Sink.state c.put_sights.new.out in
    let here = c.in-Ok.here in
    lines_end c.load_layout.ensures.same c.put_sights.ensures.looks c.in_ok-input.input c.in_ok-input.ensures.takes.passes mid c.put_sights.ensures.later here c.in-Ok.ensures.put
    (rw c.item_count.ensures.count at c.show_parts.ensures)

pub returns-in-Err-Sink : goal.returns-in-Err-Sink
returns-in-Err-Sink g c =
    sink_stops c.load_layout.ensures.same c.put_sights.ensures.looks c.in_ok-input.input c.in_ok-input.ensures.takes.passes (rw c.in-Err-Sink.field-0-is at c.in-Err-Sink.ensures.stopped)

pub returns : goal.returns
returns g c =
    store_stops c.load_layout.ensures.same c.put_sights.ensures.looks c.in_ok-input.input c.in_ok-input.ensures.takes.passes c.put_sights.ensures.later
    (rw c.in-Err-Store.field-0-is at c.in-Err-Store.ensures.stopped)

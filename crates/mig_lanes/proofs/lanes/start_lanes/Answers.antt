use Rattle.mig_mover.proofs.SeenSlots.{rose_with}
use Rattle.mig_lanes.proofs.Common.{Store, arith, err_from_is_err_and}
use Rattle.mig_lanes.proofs.Answering.{starts, starts_not}
use Rattle.mig_lanes.proofs.RunLaws.{run_carries, run_finishes, enter_part, run_part, run_events}
use Rattle.mig_lanes.proofs.lanes.start_lanes.Goals as goal

pub returns-in_err-enter_start : goal.returns-in_err-enter_start
returns-in_err-enter_start g c =
    let is = c.keeps_rules.ensures in
    let mid = g.S.Store.state c.enter_start.new.store in
    let before = c.enter_start.ensures in
    let why = c.in_err-enter_start.ensures in
    let p = err_from_is_err_and c.from_residual.result c.from_residual.ensures.1 in
    rw (p.1, p.2) (record {
      starts = starts_not _ is _ _ _ (record { keeps = before.keeps; armed = before.armed }) c.in_err-enter_start.field-0.0 why.kind why.fault;
      flies = record { part = enter_part _ is 0 (omega arith) (g.S.Store.state c.args.store.now) mid before.part; all = tt };
    })

pub returns-in_err-carry_on : goal.returns-in_err-carry_on
returns-in_err-carry_on g c =
    let is = c.keeps_rules.ensures in
    let old = g.S.Store.state c.args.store.now in
    let mid = g.S.Store.state c.enter_start.new.store in
    let new = g.S.Store.state c.carry_on.new.store in
    let before = c.enter_start.ensures in
    let entered = c.in_ok-enter_start.ensures in
    let on = c.carry_on.ensures in
    let p = err_from_is_err_and c.from_residual-in_err-carry_on.result c.from_residual-in_err-carry_on.ensures.1 in
    rw (p.1, p.2) (record {
      starts = starts_not _ is old new _ (run_carries _ is _ _ _ before.keeps before.armed 0 entered.enters on.any_moment on.change on.cause.later)
          Store tt (rose_with before.keeps.later (λ refuses not is. not (entered.seen refuses is)) c.in_err-carry_on.ensures.cause.failed);
      flies = record { part = run_part _ is 0 (omega arith) old mid new entered.ended on.part; all = tt };
    })

pub returns : goal.returns
returns g c =
    let is = c.keeps_rules.ensures in
    let old = g.S.Store.state c.args.store.now in
    let mid = g.S.Store.state c.enter_start.new.store in
    let new = g.S.Store.state c.carry_on.new.store in
    let before = c.enter_start.ensures in
    let entered = c.in_ok-enter_start.ensures in
    let on = c.carry_on.ensures in
    let done = c.in_ok-carry_on.ensures in
    record {
      starts = starts _ is old new _ (run_carries _ is _ _ _ before.keeps before.armed 0 entered.enters on.any_moment on.change on.cause.later)
          (run_finishes _ is old mid new before.keeps before.armed 0 entered.enters done.done done.settled done.landed) entered.idle;
      flies = record {
        part = run_part _ is 0 (omega arith) old mid new entered.ended on.part;
        all = run_events _ is 0 (omega arith) old mid new entered.ended done.rounds;
      };
    }

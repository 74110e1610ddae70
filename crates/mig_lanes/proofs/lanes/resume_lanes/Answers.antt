use Rattle.mig_mover.proofs.SeenSlots.{rose_with}
use Rattle.mig_lanes.proofs.Common.{Store, count_most, count_of, err_from_is_err_and, false, length, refl}
use Rattle.mig_lanes.proofs.Answering.{resumes, resumes_not}
use Rattle.mig_lanes.proofs.RunLaws.{run_carries, run_halting, run_finishes, enter_part, run_part, run_events}
use Rattle.mig_lanes.proofs.lanes.resume_lanes.Goals as goal

pub returns-in_err-k : goal.returns-in_err-k
returns-in_err-k g c =
    let job = c.args.job.now in
    let is = c.keeps_rules.ensures in
    let old = g.S.Store.state c.args.store.now in
    let mid = g.S.Store.state c.enter_resume.new.store in
    let before = c.enter_resume.ensures in
    let why = c.in_err-k.ensures in
    let most = count_most (length job.plan) old.reads in
    let p = err_from_is_err_and c.from_residual.result c.from_residual.ensures.1 in
    rw (p.1, p.2) (record {
      resumes = resumes_not _ is _ _ _ (record { keeps = before.keeps; armed = before.armed }) before.halting c.in_err-k.field-0.0 why.kind why.fault;
      flies = (count_of (length job.plan) old.reads, record { most = most; found = λ tells are. refl }, enter_part _ is _ most old mid before.part);
    })

pub returns-in_err-carry_on : goal.returns-in_err-carry_on
returns-in_err-carry_on g c =
    let is = c.keeps_rules.ensures in
    let old = g.S.Store.state c.args.store.now in
    let mid = g.S.Store.state c.enter_resume.new.store in
    let new = g.S.Store.state c.carry_on.new.store in
    let before = c.enter_resume.ensures in
    let k = c.in_ok-k.k in
    let entered = c.in_ok-k.ensures in
    let enters = entered.enters in
    let on = c.carry_on.ensures in
    let p = err_from_is_err_and c.from_residual-in_err-carry_on.result c.from_residual-in_err-carry_on.ensures.1 in
    rw (p.1, p.2) (record {
      resumes = resumes_not _ is old new _ (run_carries _ is _ _ _ before.keeps before.armed k entered.enters on.any_moment on.change on.cause.later)
          (λ c n tells may. run_halting _ is old mid new before.keeps before.armed k entered.enters on.any_moment on.change on.cause.later c
          (before.halting c n tells may) (entered.halted c n tells may)) Store tt
          (rose_with before.keeps.later (λ refuses not is. not (entered.seen refuses is)) c.in_err-carry_on.ensures.cause.failed);
      flies = (k, record { most = enters.most; found = enters.found }, run_part _ is k enters.most old mid new entered.ended on.part);
    })

pub returns : goal.returns
returns g c =
    let is = c.keeps_rules.ensures in
    let old = g.S.Store.state c.args.store.now in
    let mid = g.S.Store.state c.enter_resume.new.store in
    let new = g.S.Store.state c.carry_on.new.store in
    let before = c.enter_resume.ensures in
    let k = c.in_ok-k.k in
    let entered = c.in_ok-k.ensures in
    let on = c.carry_on.ensures in
    let done = c.in_ok-carry_on.ensures in
    let finishes = run_finishes _ is old mid new before.keeps before.armed k entered.enters done.done done.settled done.landed in
    record {
      resumes = resumes _ is old new _ (run_carries _ is _ _ _ before.keeps before.armed k entered.enters on.any_moment on.change on.cause.later)
          (λ c n tells may. run_halting _ is old mid new before.keeps before.armed k entered.enters on.any_moment on.change on.cause.later c
          (before.halting c n tells may) (entered.halted c n tells may))
          k finishes entered.ours (λ contents n tells may. (done.done false contents (entered.halted contents n tells may)).sound.after);
      flies = (
        finishes.found,
        record {
          part = run_part _ is k entered.enters.most old mid new entered.ended on.part;
          all = run_events _ is k entered.enters.most old mid new entered.ended done.rounds;
        },
      );
    }

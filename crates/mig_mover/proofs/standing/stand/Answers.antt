use Rattle.mig_mover.proofs.Common.{Err, IfErr, IsStandFault, IsUnrefused, NotStarted, ap, inl, is_running, refl, rules, sym, ◌∙◌}
use Rattle.mig_mover.proofs.Looked.{ground_ours, saw_plan}
use Rattle.mig_mover.proofs.Settling.{if_err, if_ok_both, settles_land, settles_quiet, seen_idle}
use Rattle.mig_mover.proofs.StandLaws.{if_ok_all, stands_at, stand_fault, not_started, other_plan, stands_ok}
use Rattle.mig_mover.proofs.standing.stand.Goals as goal

pub returns-in-Running : goal.returns-in-Running
returns-in-Running g c =
    let job = c.args.job.now in
    let old = g.S.Store.state c.args.store.now in
    let mid = g.S.Store.state c.settle_and_look.new.store in
    let new = g.S.Store.state c.stand_running.new.store in
    let look = c.in_ok-settle_and_look in
    let digest = c.in-Running.digest in
    let r = c.stand_running.result in
    let later = c.settle_and_look.ensures.cause.later in
    let change = c.stand_running.ensures.change in
    let saw = saw_plan look.field-0 digest c.in-Running.is job old mid look.ensures.settles look.ensures.gate look.ensures.head in
    let stands = if_ok_all r (stands_at job old mid look.ensures.settles later saw.0 digest saw.1 new change)
    c.stand_running.ensures.most c.stand_running.ensures.ours c.stand_running.ensures.count in
    let fault : IfErr r (IsStandFault (g.S.Store.refuses × (IsUnrefused job old → ⊥)) job old new) =
    if_err r (stand_fault job old mid look.ensures.settles later saw.0 digest saw.1 new change _ _ (ground_ours saw.2)) c.stand_running.ensures.fault
    in
    record {
      stands = stands;
      asked = c.stand_running.ensures.asked;
      compared = c.stand_running.ensures.compared;
      seen = if_ok_both r (λ k ours go refuses is. go refuses (saw.2 ours is)) c.stand_running.ensures.ours c.stand_running.ensures.seen;
      lands = settles_land old new (settles_quiet old mid look.ensures.settles new change);
      fault = fault;
      not_started = λ are calm told idle. not_started job _ old new are calm told idle r stands fault;
      other = λ are calm armed kept head differs. other_plan job _ old new are calm armed kept head differs r stands fault;
      running = λ are calm armed head. stands_ok job _ old new are calm armed job.digest head refl r fault;
      later = search rules;
    }

-- Where the store doesn't fail

pub returns-in-Idle-clause-not_started : goal.returns-in-Idle-clause-not_started
returns-in-Idle-clause-not_started g c = λ are calm told idle. refl

pub returns-in-Idle-clause-other : goal.returns-in-Idle-clause-other
returns-in-Idle-clause-other g c =
    let new = g.S.Store.state c.settle_and_look.new.store in
    let idle = seen_idle new.reads (λ told. ap is_running (sym c.in-Idle.is) ∙ c.in_ok-settle_and_look.ensures.gate told) in
    λ are calm armed kept head differs. other_plan c.args.job.now _ (g.S.Store.state c.args.store.now) new are calm armed kept head differs (Err NotStarted) tt (c.in_ok-settle_and_look.ensures.settles, idle)

pub returns-in-Idle-clause-running : goal.returns-in-Idle-clause-running
returns-in-Idle-clause-running g c =
    let new = g.S.Store.state c.settle_and_look.new.store in
    let idle = seen_idle new.reads (λ told. ap is_running (sym c.in-Idle.is) ∙ c.in_ok-settle_and_look.ensures.gate told) in
    λ are calm armed head. stands_ok c.args.job.now _ (g.S.Store.state c.args.store.now) new are calm armed c.args.job.now.digest head refl (Err NotStarted) (c.in_ok-settle_and_look.ensures.settles, idle)

-- the store failed

pub returns-in_err-settle_and_look-clause-not_started : goal.returns-in_err-settle_and_look-clause-not_started
returns-in_err-settle_and_look-clause-not_started g c = λ are calm. absurd (calm (inl c.in_err-settle_and_look.ensures.cause.failed))

pub returns-in_err-settle_and_look-clause-other : goal.returns-in_err-settle_and_look-clause-other
returns-in_err-settle_and_look-clause-other g c = λ are calm. absurd (calm (inl c.in_err-settle_and_look.ensures.cause.failed))

pub returns-in_err-settle_and_look-clause-running : goal.returns-in_err-settle_and_look-clause-running
returns-in_err-settle_and_look-clause-running g c = λ are calm. absurd (calm (inl c.in_err-settle_and_look.ensures.cause.failed))

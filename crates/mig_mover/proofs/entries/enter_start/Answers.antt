use Rattle.mig_mover.proofs.Common.{IsJobCell, ap, is_armed, is_running, on_ok_weaker, rules, sym, true, ◌∙◌, ◌≡◌}
use Rattle.mig_mover.proofs.Looked.{ground_back, saw_plan}
use Rattle.mig_mover.proofs.Settling.{ended_added, enters_from, fault_from, gate_kept, if_err, if_ok_is, keeps_from, keeps_lands, landed_added}
use Rattle.mig_mover.proofs.Settling.{lands_leave, never_idle, plan_fault, run_part, seen_idle, settled_reads, tells_more}
use Rattle.mig_mover.proofs.entries.enter_start.Goals as goal

-- the store failed

pub returns-in_err-settle_and_look-clause-keeps : goal.returns-in_err-settle_and_look-clause-keeps
returns-in_err-settle_and_look-clause-keeps g c =
    keeps_lands c.args.job.now _ (g.met.S.Store.is_state c.args.store.now) _ c.settle_and_look.ensures.lands c.settle_and_look.ensures.cause.later

pub returns-in_err-settle_and_look-clause-armed : goal.returns-in_err-settle_and_look-clause-armed
returns-in_err-settle_and_look-clause-armed g c = λ before. lands_leave _ (g.met.S.Store.is_state c.args.store.now) _ _
    c.settle_and_look.ensures.lands

pub returns-in_err-settle_and_look-clause-part : goal.returns-in_err-settle_and_look-clause-part
returns-in_err-settle_and_look-clause-part g c = landed_added _ _ c.settle_and_look.ensures.lands

-- the gate isn't 1
pub returns-in-Idle : goal.returns-in-Idle
returns-in-Idle g c =
    let job = c.args.job.now in
    let old = g.S.Store.state c.args.store.now in
    let law = g.met.S.Store.is_state c.args.store.now in
    let mid = g.S.Store.state c.settle_and_look.new.store in
    let new = g.S.Store.state c.enter_idle.new.store in
    let later = c.settle_and_look.ensures.cause.later in
    let look = c.in_ok-settle_and_look in
    let settles = look.ensures.settles in
    let r = c.enter_idle.result in
    let e = c.enter_idle.ensures in
    let told = tells_more old mid settles (IsJobCell job.input job.plan) in
    let ended = ended_added old mid settles (IsJobCell job.input job.plan) new e.keeps.change in
    let idle = seen_idle mid.reads (λ gate. sym (ap is_running c.in-Idle.is) ∙ look.ensures.gate gate) in
    let not_armed = never_idle mid.reads look.field-0 look.ensures.gate c.in-Idle.is in
    record {
      keeps = keeps_from job old law mid settles later new e.keeps;
      enters = on_ok_weaker r (enters_from job old law mid settles later new 0) e.enters;
      idle = if_ok_is r (λ are gate. sym (gate_kept old mid settles are) ∙ idle);
      asked = e.asked;
      ended = if_ok_is r ended;
      part = run_part old new ended;
      armed = λ before. absurd (not_armed (settled_reads old mid settles (λ image. is_armed image ≡ true) before));
      seen = on_ok_weaker r (λ go refuses is. go refuses (told is)) e.seen;
      fault = if_err r (fault_from job old law mid settles later new _ _ (ground_back told)) e.fault;
      kind = search rules;
    }

-- it is 1

pub returns-in-Running-clause-keeps : goal.returns-in-Running-clause-keeps
returns-in-Running-clause-keeps g c =
    keeps_lands c.args.job.now _ (g.met.S.Store.is_state c.args.store.now) _ c.settle_and_look.ensures.lands c.settle_and_look.ensures.cause.later

pub returns-in-Running-clause-armed : goal.returns-in-Running-clause-armed
returns-in-Running-clause-armed g c = λ before. lands_leave _ (g.met.S.Store.is_state c.args.store.now) _ _ c.settle_and_look.ensures.lands

pub returns-in-Running-clause-part : goal.returns-in-Running-clause-part
returns-in-Running-clause-part g c = landed_added _ _ c.settle_and_look.ensures.lands

pub returns-in-Running-clause-fault : goal.returns-in-Running-clause-fault
returns-in-Running-clause-fault g c =
    let look = c.in_ok-settle_and_look.ensures in
    let kept = c.in-Running.digest in
    let saw = saw_plan _ kept c.in-Running.is c.args.job.now _ _ look.settles look.gate look.head in
    if_err c.refuse_start.result (plan_fault c.args.job.now _ _ look.settles saw.0 kept saw.1 _) c.refuse_start.ensures.fault

use Rattle.mig_mover.proofs.Common.{Head, IfSome, IsJobCell, IsSafe, IsSound, IsUnrefused, List, Option, false, is_armed, leaves_wider, refl}
use Rattle.mig_mover.proofs.Common.{subst, true, ℕ, ◌∙◌, ◌≡◌}
use Rattle.mig_mover.proofs.Looked.{ground_back, ground_ours, saw_plan}
use Rattle.mig_mover.proofs.Settling.{ended_added, enters_from, fault_from, gate_kept, halting_armed, halting_sound, head_is, if_err, if_ok}
use Rattle.mig_mover.proofs.Settling.{if_ok_both, if_ok_is, journal_kept, keeps_from, keeps_lands, landed_added, lands_leave, never_idle, run_part}
use Rattle.mig_mover.proofs.Settling.{settled_reads, settles_leave, tells_more}
use Rattle.mig_mover.proofs.entries.enter_resume.Goals as goal

-- the store failed

pub returns-in_err-settle_and_look-clause-keeps : goal.returns-in_err-settle_and_look-clause-keeps
returns-in_err-settle_and_look-clause-keeps g c =
    keeps_lands c.args.job.now _ (g.met.S.Store.is_state c.args.store.now) _ c.settle_and_look.ensures.lands c.settle_and_look.ensures.cause.later

pub returns-in_err-settle_and_look-clause-armed : goal.returns-in_err-settle_and_look-clause-armed
returns-in_err-settle_and_look-clause-armed g c = λ before. lands_leave _ (g.met.S.Store.is_state c.args.store.now) _ _
    c.settle_and_look.ensures.lands

pub returns-in_err-settle_and_look-clause-halting : goal.returns-in_err-settle_and_look-clause-halting
returns-in_err-settle_and_look-clause-halting g c = λ contents n tells may.
    lands_leave _ (g.met.S.Store.is_state c.args.store.now) _ _ c.settle_and_look.ensures.lands

pub returns-in_err-settle_and_look-clause-part : goal.returns-in_err-settle_and_look-clause-part
returns-in_err-settle_and_look-clause-part g c = landed_added _ _ c.settle_and_look.ensures.lands

-- the gate isn't 1
pub returns-in-Idle : goal.returns-in-Idle
returns-in-Idle g c =
    let job = c.args.job.now in
    let old = g.S.Store.state c.args.store.now in
    let law = g.met.S.Store.is_state c.args.store.now in
    let mid = g.S.Store.state c.settle_and_look.new.store in
    let new = g.S.Store.state c.resume_idle.new.store in
    let later = c.settle_and_look.ensures.cause.later in
    let look = c.in_ok-settle_and_look in
    let settles = look.ensures.settles in
    let r = c.resume_idle.result in
    let e = c.resume_idle.ensures in
    let told = tells_more old mid settles (IsJobCell job.input job.plan) in
    let ended = ended_added old mid settles (IsJobCell job.input job.plan) new e.keeps.change in
    let not_armed = never_idle mid.reads look.field-0 look.ensures.gate c.in-Idle.is in
    record {
      keeps = keeps_from job old law mid settles later new e.keeps;
      enters = if_ok r (enters_from job old law mid settles later new) e.enters;
      ours = if_ok_is r (λ are gate armed. absurd (not_armed (gate_kept old mid settles are ∙ armed)));
      asked = e.asked;
      compared = e.compared;
      ended = if_ok_is r ended;
      part = run_part old new ended;
      armed = λ before. absurd (not_armed (settled_reads old mid settles (λ image. is_armed image ≡ true) before));
      halting = λ contents n tells may. absurd (not_armed (halting_armed job contents old mid settles n may));
      halted = if_ok r (λ k entered contents n tells may. absurd (not_armed (halting_armed job contents old mid settles n may))) e.enters;
      seen = if_ok r (λ k go refuses is. go refuses (told is.told)) e.seen;
      fault = if_err r (fault_from job old law mid settles later new _ _ (ground_back (λ (is : IsUnrefused job old). told is.told))) e.fault;
      kind = e.kind;
    }

-- it is 1
pub returns-in-Running : goal.returns-in-Running
returns-in-Running g c =
    let job = c.args.job.now in
    let old = g.S.Store.state c.args.store.now in
    let law = g.met.S.Store.is_state c.args.store.now in
    let mid = g.S.Store.state c.settle_and_look.new.store in
    let new = g.S.Store.state c.resume_running.new.store in
    let later = c.settle_and_look.ensures.cause.later in
    let look = c.in_ok-settle_and_look in
    let settles = look.ensures.settles in
    let digest = c.in-Running.digest in
    let r = c.resume_running.result in
    let e = c.resume_running.ensures in
    let told = tells_more old mid settles (IsJobCell job.input job.plan) in
    let ended = ended_added old mid settles (IsJobCell job.input job.plan) new e.keeps.change in
    let saw = saw_plan look.field-0 digest c.in-Running.is job old mid settles look.ensures.gate look.ensures.head in
    record {
      keeps = keeps_from job old law mid settles later new e.keeps;
      enters = if_ok r (enters_from job old law mid settles later new) e.enters;
      ours = if_ok r (λ k same are gate armed. subst (λ (o : Option (List ℕ)). IfSome o (λ bytes. bytes ≡ job.digest)) (journal_kept old mid settles are Head refl)
          (head_is mid.reads digest saw.1 (λ bytes. bytes ≡ job.digest) same)) e.ours;
      asked = e.asked;
      compared = e.compared;
      ended = if_ok_is r ended;
      part = run_part old new ended;
      armed = λ before. settles_leave old law (λ image. is_armed image ≡ true) mid settles new (e.armed (settled_reads old mid settles (λ image. is_armed image ≡ true) before));
      halting = λ contents n tells may. settles_leave old law (IsSafe job.input job.plan job.digest contents) mid settles new
          (leaves_wider (IsSafe job.input job.plan job.digest contents) (IsSound false job.input job.plan job.digest contents) mid new (λ image sound. sound.safe)
          (e.keeps.sound false contents (told tells) (halting_sound job contents old mid settles n may)));
      halted = if_ok r (λ k entered contents n tells may. entered.done false contents (told tells) (halting_sound job contents old mid settles n may)) e.enters;
      seen = if_ok_both r (λ k ours go refuses is. go refuses (saw.2 ours is)) e.ours e.seen;
      fault = if_err r (fault_from job old law mid settles later new _ _ (ground_ours saw.2)) e.fault;
      kind = e.kind;
    }

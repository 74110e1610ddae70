use Rattle.mig_top.proofs.Common.{[], four_and, halted_text}
use Rattle.mig_top.proofs.StoreCommands.{halt_done, halt_failed, halt_refused, halt_unsaved, in_part, in_whole, is_standing}
use Rattle.mig_top.proofs.EndsOf.{err_is, failed_with, refused, shown, stopped}
use Rattle.mig_mover.specs.Holdings.{IsUnrefused}
use Rattle.mig_store.specs.Grounds.{FailedOr}
use Rattle.mig_top.proofs.halt_command.close.Goals as goal

pub returns-in-Err : goal.returns-in-Err
returns-in-Err g c before names are same later =
    refused (g.K.Sink.state c.args.out.now) c.fault_ending.result c.input.result.now c.args.job.now.input c.in-Err.fault (c.fault_ending.ensures (four_and names.files [])) c.input.ensures.value
    (halt_refused c.args.job.now are same c.stand.ensures.lands c.in-Err.fault c.in-Err.ensures.fault)

pub returns-in_err-save_layout : goal.returns-in_err-save_layout
returns-in_err-save_layout g c before names are same later =
    let e = c.in_err-save_layout in
    rw (err_is c.from_residual.ensures.1)
    (stopped _ _ (halt_unsaved (g.F.Folder.state c.args.folder.now) same later c.in-Ok.ensures.stands.settles e.field-0.0 e.ensures.failed))

pub returns-in-Ok-halt : goal.returns-in-Ok-halt
returns-in-Ok-halt g c before names are same later =
    let task = c.args.job.now in
    let found = c.in-Ok.found in
    let stood = c.in-Ok.ensures.stands in
    let h = c.halt.ensures in
    let old = g.S.Store.state c.args.store.now in
    let mid = g.S.Store.state c.stand.new.store in
    let all = in_whole task old mid found stood (g.met.S.Store.is_state c.args.store.now) (g.met.S.Store.is_state c.stand.new.store) (g.S.Store.state c.halt.new.store)
    (g.met.S.Store.is_state c.halt.new.store) h.any_moment h.change c.in-Ok-halt.ensures.halted c.in-Ok-halt.ensures.settled in
    shown (halted_text task.plan found) (halt_done task are (g.F.Folder.state c.args.folder.now) same found c.in_ok-save_layout.ensures.saved all (is_standing task old mid found stood))
    (rw c.rounds.ensures.count at c.show_halted.ensures)

pub returns-in-Err-halt : goal.returns-in-Err-halt
returns-in-Err-halt g c before names are same later =
    let task = c.args.job.now in
    let found = c.in-Ok.found in
    let h = c.halt.ensures in
    let bad = c.in-Err-halt.ensures.fault in
    let old = g.S.Store.state c.args.store.now in
    let mid = g.S.Store.state c.stand.new.store in
    let new = g.S.Store.state c.halt.new.store in
    let failed : FailedOr (g.S.Store.refuses × ¬ IsUnrefused task old) old new =
    failed_with old mid new c.stand.ensures.later (λ refuses unseen unrefused. unseen (c.in-Ok.ensures.seen refuses unrefused)) bad.1 in
    let part = in_part task old mid found c.in-Ok.ensures.stands (g.met.S.Store.is_state c.args.store.now)
    (g.met.S.Store.is_state c.stand.new.store) new (g.met.S.Store.is_state c.halt.new.store) h.any_moment h.change in
    refused (g.K.Sink.state c.args.out.now) c.fault_ending-in-Err-halt.result c.input-in-Err-halt.result.now task.input c.in-Err-halt.fault (c.fault_ending-in-Err-halt.ensures (four_and names.files []))
    c.input-in-Err-halt.ensures.value
    (halt_failed task are (g.F.Folder.state c.args.folder.now) same found c.in_ok-save_layout.ensures.saved part failed c.in-Err-halt.fault bad.0)

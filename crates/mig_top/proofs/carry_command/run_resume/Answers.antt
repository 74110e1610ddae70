use Rattle.mig_top.proofs.Common.{[], done_text, err_from_is_err_and, four_and, task_names}
use Rattle.mig_top.proofs.StoreCommands.{resume_done, resume_refused, resume_rest}
use Rattle.mig_top.proofs.EndsOf.{refused, shown, stopped}
use Rattle.mig_top.proofs.StoreEnds.{unread, untouched}
use Rattle.mig_top.proofs.carry_command.run_resume.Goals as goal

pub returns-in_err-job : goal.returns-in_err-job
returns-in_err-job g c =
    let p = err_from_is_err_and c.from_residual.result c.from_residual.ensures.1 in
    rw (p.1, p.2) (stopped (g.K.Sink.state c.args.out.now) c.in_err-job.field-0.0 (unread (resume_rest (g.S.Store.state c.args.store.now)) (λ o h. h) tt (λ o u. c.load_job.ensures.same) untouched c.in_err-job.ensures.takes))

pub returns-in-Ok : goal.returns-in-Ok
returns-in-Ok g c =
    let found = c.in-Ok.found in
    let ok = c.in-Ok.ensures.resumes in
    let flies = c.in-Ok.ensures.flies.1 in
    shown (done_text c.in_ok-job.job.plan found)
    (resume_done c.load_job.ensures.same c.in_ok-job.ensures.takes.passes ok.carries found
    (record { moves = record { carries = ok.carries; finishes = ok.finishes; events = flies.all }; halting = ok.halting; halted = ok.halted; kept = ok.kept })
    (record { carries = ok.carries; part = flies.part })
    (record { most = ok.finishes.found.most; found = ok.finishes.found.found; ours = ok.ours; ready = ok.finishes.ready }))
    (rw c.rounds.ensures.count at c.show_rounds.ensures)

pub returns : goal.returns
returns g c =
    let task = c.in_ok-job.job in
    let bad = c.in-Err.ensures.resumes in
    let flies = c.in-Err.ensures.flies in
    refused (g.K.Sink.state c.args.out.now) c.fault_ending.result c.input.result.now task.input c.in-Err.fault
    (c.fault_ending.ensures (four_and (task_names c.args.task).files [])) c.input.ensures.value
    (resume_refused c.load_job.ensures.same c.in_ok-job.ensures.takes.passes bad.carries (flies.0, flies.1, record { carries = bad.carries; part = flies.2 }) bad.halting c.in-Err.fault
    bad.faults.fault bad.kind)

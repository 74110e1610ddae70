use Rattle.mig_top.proofs.EndsOf.{err_is, one_changed, stopped, unread_leaves}
use Rattle.mig_top.proofs.StoreCommands.{halt_rest}
use Rattle.mig_top.proofs.StoreEnds.{unread, untouched}
use Rattle.mig_top.specs.halt.Leaves.{HaltSaves}
use Rattle.mig_top.proofs.halt_command.run_halt.Goals as goal

pub returns-in_err-job : goal.returns-in_err-job
returns-in_err-job g c =
    let same = c.load_job.ensures.same in
    let still = one_changed (g.F.Folder.state c.args.folder.now) (g.F.Folder.state c.load_job.new.folder) c.args.layout.now same in
    let Leaves = HaltSaves (g.F.Folder.state c.args.folder.now) (g.F.Folder.state c.load_job.new.folder) c.args.layout.now in
    rw (err_is c.from_residual.ensures.1) (stopped (g.K.Sink.state c.args.out.now) c.in_err-job.field-0.0
    (unread (halt_rest (g.S.Store.state c.args.store.now)) (λ o h. h) tt (unread_leaves Leaves still same (λ word. same) (λ f. same)) untouched c.in_err-job.ensures.takes))

use Rattle.mig_top.proofs.Common.{Files, IfSome, IsSomeAnd, Option, OthersStay, arith, inl, inr, names_in, subst, texts_of}
use Rattle.mig_top.proofs.EndsOf.{err_is, files_end, one_changed, shown, stopped, unread_leaves}
use Rattle.mig_top.proofs.PlanSaves.{are_saved, half_saved}
use Rattle.mig_top.proofs.Steps.{if_map}
use Rattle.mig_top.specs.plan.Leaves.{PlanLeaves}
use Rattle.mig_top.proofs.plan_command.run_plan.Goals as goal

pub returns-in_err-texts : goal.returns-in_err-texts
returns-in_err-texts g c =
    let same = c.load_planned.ensures.same in
    let still = one_changed (g.F.Folder.state c.args.folder.now) (g.F.Folder.state c.load_planned.new.folder) c.args.files.plan.now same in
    let Leaves = PlanLeaves (g.F.Folder.state c.args.folder.now) (g.F.Folder.state c.load_planned.new.folder) (names_in c.args.files) c.args.cert.now in
    rw (err_is c.from_residual.ensures.1)
    (stopped _ _ (files_end c.in_err-texts.ensures.takes (λ files o s. s) (unread_leaves Leaves (inl still) same (λ word. same) (λ f. same))))

pub returns-in_err-save : goal.returns-in_err-save
returns-in_err-save g c =
    let new = g.F.Folder.state c.save.new.self in
    rw (err_is c.from_residual-in_err-save.ensures.1) (stopped _ _ (record {
      cause = omega (arith, c.load_planned.ensures.later, c.in_err-save.ensures.failed);
      leaves = inl (subst (λ (o : Option Files). IfSome o (λ files. IsSomeAnd new.files (OthersStay c.args.files.plan.now files))) c.load_planned.ensures.same c.save.ensures.others);
    }))

pub returns-in_err-save-2 : goal.returns-in_err-save-2
returns-in_err-save-2 g c =
    let old = g.F.Folder.state c.args.folder.now in
    rw (err_is c.from_residual-in_err-save-2.ensures.1) (stopped _ _ (record {
      cause = omega (arith, c.load_planned.ensures.later, c.save.ensures.later, c.in_err-save-2.ensures.failed);
      leaves =
          inr (half_saved (names_in c.args.files) c.args.cert.now c.requires (texts_of c.in_ok-texts.texts) old.files (g.F.Folder.state c.load_planned.new.folder).files
          (g.F.Folder.state c.save.new.self).files (g.F.Folder.state c.save-2.new.self).files c.load_planned.ensures.same c.in_ok-texts.ensures.takes.passes
          (rw c.deref.ensures.value at c.in_ok-save.ensures.saved) c.save-2.ensures.others);
    }))

pub returns : goal.returns
returns g c =
    let old = g.F.Folder.state c.args.folder.now in
    shown c.in_ok-texts.texts.cert.items (record {
      cause = if_map old.files (λ files made. (made.0, made.1, tt)) c.in_ok-texts.ensures.takes.passes;
      leaves =
          are_saved (names_in c.args.files) c.args.cert.now c.requires (texts_of c.in_ok-texts.texts) old.files (g.F.Folder.state c.load_planned.new.folder).files
          (g.F.Folder.state c.save.new.self).files (g.F.Folder.state c.save-2.new.self).files c.load_planned.ensures.same c.in_ok-texts.ensures.takes.passes
          (rw c.deref.ensures.value at c.in_ok-save.ensures.saved) (rw c.deref-2.ensures.value at c.in_ok-save-2.ensures.saved);
    }) (rw c.deref-3.ensures.value at c.show.ensures)

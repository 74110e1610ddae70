use Rattle.mig_top.proofs.Common.{IsTightSaved, OthersStay, Saves, arith, inl, inr, names_in, plans_tight_texts, tight_texts_of}
use Rattle.mig_top.proofs.EndsOf.{err_is, files_end, shown, stopped, unread_leaves}
use Rattle.mig_top.proofs.OneSave.{save_leaves, tight_found, tight_saved}
use Rattle.mig_top.proofs.Steps.{if_map}
use Rattle.mig_top.specs.plan_tight.Texts.{IsTightFound, TightLeaves}
use Rattle.mig_top.proofs.tight_command.run_plan_tight.Goals as goal

pub returns-in_err-text : goal.returns-in_err-text
returns-in_err-text g c =
    let same = c.load_tight.ensures.same in
    let Leaves = TightLeaves (g.F.Folder.state c.args.folder.now) (g.F.Folder.state c.load_tight.new.folder) (names_in c.args.files) in
    rw (err_is c.from_residual.ensures.1)
    (stopped _ _ (files_end c.in_err-text.ensures.takes (λ files o s. s) (unread_leaves Leaves (inl same) same (λ word. same) (λ f. same))))

pub returns-in_err-save : goal.returns-in_err-save
returns-in_err-save g c =
    let n = names_in c.args.files in
    let texts = tight_texts_of c.in_ok-text.text in
    rw (err_is c.from_residual-in_err-save.ensures.1) (stopped _ _ (record {
      cause = omega (arith, c.load_tight.ensures.later, c.in_err-save.ensures.failed);
      leaves =
          inr (save_leaves (λ f. (plans_tight_texts n f).Passes texts) (OthersStay n.plan) (λ f h. IsTightFound n f × OthersStay n.plan f h) (λ f h made others. (tight_found n texts f made, others))
          (g.F.Folder.state c.args.folder.now).files (g.F.Folder.state c.load_tight.new.folder).files (g.F.Folder.state c.save.new.self).files
          c.load_tight.ensures.same c.in_ok-text.ensures.takes.passes c.save.ensures.others);
    }))

pub returns : goal.returns
returns g c =
    let n = names_in c.args.files in
    let texts = tight_texts_of c.in_ok-text.text in
    let old = g.F.Folder.state c.args.folder.now in
    shown texts.told (record {
      cause = if_map old.files (λ files made. (made.0, made.1, (made.2.0, made.2.1, tt))) c.in_ok-text.ensures.takes.passes;
      leaves =
          save_leaves (λ f. (plans_tight_texts n f).Passes texts) (Saves n.plan texts.plan) (IsTightSaved n texts.told) (tight_saved n texts)
          old.files (g.F.Folder.state c.load_tight.new.folder).files (g.F.Folder.state c.save.new.self).files
          c.load_tight.ensures.same c.in_ok-text.ensures.takes.passes (rw c.deref.ensures.value at c.in_ok-save.ensures.saved);
    }) c.show_parked.ensures

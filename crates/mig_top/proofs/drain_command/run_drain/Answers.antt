use Rattle.mig_top.proofs.Common.{IsDrainSaved, OthersStay, Saves, arith, drain_texts_of, empties_texts, inl, inr}
use Rattle.mig_top.proofs.EndsOf.{err_is, files_end, shown, stopped, unread_leaves}
use Rattle.mig_top.proofs.OneSave.{drain_found, drain_saved, save_leaves}
use Rattle.mig_top.proofs.Steps.{if_map}
use Rattle.mig_top.specs.drain.Texts.{DrainLeaves, IsDrainFound}
use Rattle.mig_top.proofs.drain_command.run_drain.Goals as goal

pub returns-in_err-text : goal.returns-in_err-text
returns-in_err-text g c =
    let same = c.load_drain.ensures.same in
    let a = c.args in
    let Leaves = DrainLeaves (g.F.Folder.state a.folder.now) (g.F.Folder.state c.load_drain.new.folder) a.disks.now a.now.now a.name a.next.now in
    rw (err_is c.from_residual.ensures.1)
    (stopped _ _ (files_end c.in_err-text.ensures.takes (λ files o s. s) (unread_leaves Leaves (inl same) same (λ word. same) (λ f. same))))

pub returns-in_err-save : goal.returns-in_err-save
returns-in_err-save g c =
    let a = c.args in
    let texts = drain_texts_of c.in_ok-text.text in
    rw (err_is c.from_residual-in_err-save.ensures.1) (stopped _ _ (record {
      cause = omega (arith, c.load_drain.ensures.later, c.in_err-save.ensures.failed);
      leaves =
          inr (save_leaves (λ f. (empties_texts a.disks.now a.now.now a.name f).Passes texts) (OthersStay a.next.now) (λ f h. IsDrainFound a.disks.now a.now.now a.name f × OthersStay a.next.now f h)
          (λ f h made others. (drain_found a.disks.now a.now.now a.name texts f made, others))
          (g.F.Folder.state a.folder.now).files (g.F.Folder.state c.load_drain.new.folder).files (g.F.Folder.state c.save.new.self).files
          c.load_drain.ensures.same c.in_ok-text.ensures.takes.passes c.save.ensures.others);
    }))

pub returns : goal.returns
returns g c =
    let a = c.args in
    let texts = drain_texts_of c.in_ok-text.text in
    let old = g.F.Folder.state a.folder.now in
    shown texts.told (record {
      cause = if_map old.files (λ files made. (made.0, made.1, (made.2.0, made.2.1, (made.2.2.0, made.2.2.1, tt)))) c.in_ok-text.ensures.takes.passes;
      leaves =
          save_leaves (λ f. (empties_texts a.disks.now a.now.now a.name f).Passes texts) (Saves a.next.now texts.next) (IsDrainSaved a.disks.now a.now.now a.name a.next.now texts.told)
          (drain_saved a.disks.now a.now.now a.name a.next.now texts) old.files (g.F.Folder.state c.load_drain.new.folder).files (g.F.Folder.state c.save.new.self).files
          c.load_drain.ensures.same c.in_ok-text.ensures.takes.passes (rw c.deref.ensures.value at c.in_ok-save.ensures.saved);
    }) c.show_drained.ensures

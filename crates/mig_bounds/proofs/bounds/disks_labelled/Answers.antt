use Rattle.mig_bounds.proofs.Common.{AllPairs, Bool, DiskId, Global, List, Vec, [], ap, eq-eqb, eqb, get_or, increasing_filter, ne_eqb, numbers, subst, sym, ℕ, ◌++◌, ◌∙◌, ◌∷◌}
use Rattle.mig_bounds.proofs.DiskLists.{filter_yes, filter_no, numbers_push, IsDiskSet-numbers}
use Rattle.mig_bounds.proofs.bounds.disks_labelled.Goals as goal
use Rattle.mig_bounds.proofs.bounds.disks_labelled.Goals.{then-labels-disk+in_ok-push, else-labels-disk}

pub loop-disk-preserved : goal.loop-disk-preserved
loop-disk-preserved c =
    let p : ℕ → Bool = λ v. eqb (get_or c.args.labels.now v 0) c.args.root in
    let v = c.loop-disk.disk in
    elim c.if-labels-disk.branch [
      | then-labels-disk+in_ok-push w ↦ ap (λ (x : Vec DiskId Global). numbers x.items) w.disks-is ∙ ap numbers w.in_ok-push.ensures.items ∙ numbers_push c.loop-disk.disks.items v
          ∙ ap (λ (x : List ℕ). x ++ v ∷ []) c.loop-disk.invariant ∙ sym (filter_yes p v (eq-eqb (get_or c.args.labels.now v 0) c.args.root w.if-labels-disk.true))
      | else-labels-disk w ↦ ap (λ (x : Vec DiskId Global). numbers x.items) w.disks-is ∙ c.loop-disk.invariant ∙ sym (filter_no p v (ne_eqb (get_or c.args.labels.now v 0) c.args.root w.if-labels-disk.false))
    ]

pub returns-clause-increasing : goal.returns-clause-increasing
returns-clause-increasing c =
    let p : ℕ → Bool = λ v. eqb (get_or c.args.labels.now v 0) c.args.root in
    IsDiskSet-numbers c.loop-disk.disks.items (subst (λ (x : List ℕ). Rattle.std.proofs.Common.AllPairs (λ a b. Rattle.std.proofs.Common.◌<◌ a b) x) (sym c.loop-disk.invariant) (increasing_filter p 0 c.loop-disk.disk))

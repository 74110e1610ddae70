-- Closing a migration early: the free slots are erased, the store is synced, and the journal is closed.
use Rattle.mig_mover.proofs.Common.{AreErased, ChangesOnly, Contents, EndsHalted, Gate, HoldsZeros, IfSome, Image, IsAt, IsClosingCell, IsFreeSlot}
use Rattle.mig_mover.proofs.Common.{IsHaltCell, IsHaltSafe, IsSafe, IsSafeAfter, IsSafeAt, IsSettled, IsTask, KeepsHaltSafe, SameBut, Some, State}
use Rattle.mig_mover.proofs.Common.{Task, Tells, [], ap, changes_wider, false≢true, free_bytes, gate_bytes, inl, inr, is_one, leaves_then, length}
use Rattle.mig_mover.proofs.Common.{refl, slot_of, subst, sym, then_step, told_is, told_kept, ℕ, ⊎_elim, ◌∙◌, ◌∷◌, ◌≡◌, ◌≤◌}
use Rattle.mig_mover.proofs.Settling.{settled_leave}

module _ (task : Task) (is : IsTask task) (k : ℕ) (most : k ≤ length task.plan) (old erased : State)
    (erase : ChangesOnly (IsFreeSlot task.input task.plan k) old erased) where
  pub change_erased : ChangesOnly (IsClosingCell task k) old erased
  change_erased = changes_wider _ _ _ _ (λ cell of. inr of) (λ cell of. inr of) [] old erased erase

  module _ (at : IsAt task old.reads k) (contents : Contents) (tells : Tells (IsHaltCell task.input task.plan) old.reads)
      (safe : IsSafe task.input task.plan task.digest contents old.reads) where
    open_after : (image : Image) → SameBut (IsFreeSlot task.input task.plan k) old.reads image
        → IsSafeAfter task.input task.plan task.digest contents image k
    open_after image same = free_bytes task.input is.valid task.plan is.runs task.digest contents k most old.reads image same (record {
      armed = at.running (tells Gate (inl (inr (inl refl))));
      count = at.count (λ cell of. tells cell (inl of));
      safe = subst (IsSafeAt task.input task.plan task.digest contents old.reads) (at.count (λ cell of. tells cell (inl of))) safe;
    })

  pub keeps_erased : IsSettled old → IsAt task old.reads k → KeepsHaltSafe task k old erased
  keeps_erased settled at contents tells safe = settled_leave settled erase (λ image same. inl (open_after at contents tells safe image same))

  -- once the free slots are zeros and the gate is written
  module _ (zeros : AreErased task k erased.reads) (closed : State) (close : ChangesOnly (λ c. c ≡ Gate) erased closed) where
    pub change_closed : ChangesOnly (IsClosingCell task k) old closed
    change_closed = then_step (IsClosingCell task k) old erased (λ c. c ≡ Gate) closed (λ cell of. inl of) change_erased close

    pub erased_closed : AreErased task k closed.reads
    erased_closed spot named free = subst HoldsZeros (sym (close.told.same (slot_of task.input spot) (λ e. cc))) (zeros spot named free)

    module _ (at : IsAt task old.reads k) (contents : Contents) (tells : Tells (IsHaltCell task.input task.plan) old.reads)
        (safe : IsSafe task.input task.plan task.digest contents old.reads) where
      halt_safe : (image : Image) → SameBut (λ c. c ≡ Gate) erased.reads image → IsHaltSafe task.input task.plan task.digest contents image k
      halt_safe image same = gate_bytes task.input is.valid task.plan is.runs task.digest contents k most erased.reads image same
          (open_after at contents tells safe erased.reads erase.told)
          (λ spot named free. told_is _ _ (told_kept _ old.reads erased.reads erase.told (slot_of task.input spot)
          (tells (slot_of task.input spot) (inr (spot, named, refl)))) (zeros spot named free))

    pub keeps_closed : IsSettled old → IsSettled erased → IsAt task old.reads k → KeepsHaltSafe task k old closed
    keeps_closed settled settled_erased at contents tells safe =
        leaves_then _ old erased closed (keeps_erased settled at contents tells safe)
        (settled_leave settled_erased close (halt_safe at contents tells safe))

    pub ends_closed : IsAt task old.reads k → IfSome (closed.reads Gate) (λ bytes. bytes ≡ 0 ∷ []) → EndsHalted task k old closed
    ends_closed at gate contents tells safe = ⊎_elim
        (λ still. absurd (false≢true (sym (ap is_one written) ∙ still.armed)))
        (λ done. done)
        (halt_safe at contents tells safe closed.reads close.told)
      where
        written : closed.reads Gate ≡ Some (0 ∷ [])
        written = told_is (closed.reads Gate) (0 ∷ []) (told_kept _ erased.reads closed.reads close.told Gate
            (told_kept _ old.reads erased.reads erase.told Gate (tells Gate (inl (inr (inl refl)))))) gate

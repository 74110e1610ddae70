-- The end of a round: its mark, and the erasures after it.
use Rattle.mig_lanes.proofs.Common.{All, Bool, Cell, ChangesOnly, Contains, Contains-get_or, Contents, HasCopied, HasDone, HoldsZeros, IfSome, Image, IsInUse, IsJobCell, IsSettled, IsSound}
use Rattle.mig_lanes.proofs.Common.{IsSoundAfter, IsSourceSlot, IsTask, IsWorkCell, LeavesOnly, Mark, NoCell, SameBut, Shift, Some, State, Task, Tells, [], ap, arith, cases_Bool, changes_leave}
use Rattle.mig_lanes.proofs.Common.{changes_then, changes_wider, from_same, get_or, inl, inr, is_marked, is_one, leaves_then, length, marking, other_bytes, refl, round_at, same_wider}
use Rattle.mig_lanes.proofs.Common.{settled_change, slot_of, sound_after, subst, suc, sym, tells_kept, told_is, unmarked, ℕ, ⊎_elim, ◌<◌, ◌∙◌, ◌∷◌, ◌≡◌, ◌≤◌}

module _ (task : Task) (is : IsTask task) (k : ℕ) (lt : k < length task.plan) where
  source_job : (s : Shift) → Contains (round_at task.plan (suc k)) s → IsJobCell task.input task.plan (slot_of task.input s.from)
  source_job s has = inr (s.from, (suc k, inl (has.0, s, has.1, has.2, refl)), refl)

  mark_job : IsJobCell task.input task.plan (Mark (suc k))
  mark_job = inl (inr (inr (suc k, omega arith, omega arith, refl)))

  module _ (asked : Bool) (contents : Contents) (old : State) (done : HasCopied asked task contents old k) (round : ℕ) (next : round ≡ suc k) where
    abbrev pub Sound : Image → Type 0
    Sound = IsSound asked task.input task.plan task.digest contents

    from_slot : (cell : Cell) → IsSourceSlot task.input task.plan round cell → IsSourceSlot task.input task.plan (suc k) cell
    from_slot cell of = subst (λ (n : ℕ). IsSourceSlot task.input task.plan n cell) next of

    at_mark : (cell : Cell) → cell ≡ Mark round → cell ≡ Mark (suc k)
    at_mark cell this = this ∙ ap Mark next

    -- while the mark is set
    mark_maybe : (image : Image) → SameBut (λ c. c ≡ Mark (suc k)) old.reads image → IsSound asked task.input task.plan task.digest contents image
    mark_maybe image same = ⊎_elim
        (λ set. sound_after task.input is.valid task.plan is.runs task.digest contents (suc k) lt asked image
        (marking task.input is.valid task.plan is.runs task.digest contents k (omega arith) lt old.reads image same asked set done.sound done.copied))
        (λ unset. sound_after task.input is.valid task.plan is.runs task.digest contents k (omega arith) asked image
        (unmarked task.input is.valid task.plan is.runs task.digest contents k (omega arith) lt old.reads image same asked unset done.sound))
        (cases_Bool (is_marked image (suc k)))

    module _ (set : State) (mark : ChangesOnly (λ c. c ≡ Mark round) old set) where
      pub exit_mark : LeavesOnly Sound old set
      exit_mark = changes_leave Sound (λ c. c ≡ Mark round) (λ c. c ≡ Mark round) [] old set mark
          (λ before image left same. mark_maybe image (from_same (λ c. c ≡ Mark (suc k)) old.reads before image (done.settled before left) (same_wider (λ c. c ≡ Mark round) (λ c. c ≡ Mark (suc k)) at_mark before image same)))

      module _ (marked : IfSome (set.reads (Mark round)) (λ bytes. bytes ≡ 1 ∷ [])) (settled_set : IsSettled set) (erased : State) (erase : ChangesOnly (IsSourceSlot task.input task.plan round) set erased) where
        tells_set : Tells (IsJobCell task.input task.plan) set.reads
        tells_set = tells_kept (λ c. c ≡ Mark round) (IsJobCell task.input task.plan) old.reads set.reads mark.told done.tells

        is_set : set.reads (Mark (suc k)) ≡ Some (1 ∷ [])
        is_set = told_is (set.reads (Mark (suc k))) (1 ∷ []) (tells_set (Mark (suc k)) mark_job) (subst (λ (n : ℕ). IfSome (set.reads (Mark n)) (λ bytes. bytes ≡ 1 ∷ [])) next marked)

        reads_set : IsSoundAfter asked task.input task.plan task.digest contents set.reads (suc k)
        reads_set = marking task.input is.valid task.plan is.runs task.digest contents k (omega arith) lt old.reads set.reads (same_wider (λ c. c ≡ Mark round) (λ c. c ≡ Mark (suc k)) at_mark old.reads set.reads mark.told)
            asked (ap is_one is_set) done.sound done.copied

        erasing : (image : Image) → SameBut (IsSourceSlot task.input task.plan round) set.reads image → IsSoundAfter asked task.input task.plan task.digest contents image (suc k)
        erasing image same = other_bytes task.input is.valid task.plan is.runs task.digest contents (suc k) lt asked set.reads image
            (same_wider (IsSourceSlot task.input task.plan round) (IsInUse task.input task.plan (suc k)) (λ cell of. inl (from_slot cell of)) set.reads image same) reads_set

        pub exit_erase : LeavesOnly Sound old erased
        exit_erase = leaves_then Sound old set erased exit_mark
            (changes_leave Sound (IsSourceSlot task.input task.plan round) (IsSourceSlot task.input task.plan round) [] set erased erase
            (λ before image left same. sound_after task.input is.valid task.plan is.runs task.digest contents (suc k) lt asked image (erasing image (from_same (IsSourceSlot task.input task.plan round) set.reads before image (settled_set before left) same))))

        -- the state after the round
        pub done_next : All (λ s. HoldsZeros (erased.reads (slot_of task.input s.from))) (round_at task.plan round) → HasDone asked task.input task.plan task.digest contents erased round
        done_next zeros_there = subst (HasDone asked task.input task.plan task.digest contents erased) (sym next) (record {
          sound = erasing erased.reads erase.told;
          erased = λ j d in_range. told_is _ _ (tells (slot_of task.input (get_or (round_at task.plan (suc k)) j d).from) (source_job (get_or (round_at task.plan (suc k)) j d) (Contains-get_or (round_at task.plan (suc k)) j d in_range))) (zeros_next j d in_range);
          settled = λ image left. same_wider (IsSourceSlot task.input task.plan round) (IsSourceSlot task.input task.plan (suc k)) from_slot erased.reads image
              (settled_change (IsSourceSlot task.input task.plan round) [] set erased erase (λ before was. same_wider NoCell (IsSourceSlot task.input task.plan round) (λ cell none. absurd none) set.reads before (settled_set before was)) image left);
          tells = tells;
        })
          where
            tells : Tells (IsJobCell task.input task.plan) erased.reads
            tells = tells_kept (IsSourceSlot task.input task.plan round) (IsJobCell task.input task.plan) set.reads erased.reads erase.told tells_set

            zeros_next : All (λ s. HoldsZeros (erased.reads (slot_of task.input s.from))) (round_at task.plan (suc k))
            zeros_next = subst (λ (n : ℕ). All (λ s. HoldsZeros (erased.reads (slot_of task.input s.from))) (round_at task.plan n)) next zeros_there

-- The cells that change

module _ (task : Task) (round : ℕ) (low : 1 ≤ round) (high : round ≤ length task.plan) (old set : State) (mark : ChangesOnly (λ c. c ≡ Mark round) old set) where
  mark_work : (cell : Cell) → cell ≡ Mark round → IsWorkCell task.input task.plan cell
  mark_work cell this = inl (round, low, high, this)

  from_work : (cell : Cell) → IsSourceSlot task.input task.plan round cell → IsWorkCell task.input task.plan cell
  from_work cell at = inr (at.0, (round, inl at.1), at.2)

  pub set_work : ChangesOnly (IsWorkCell task.input task.plan) old set
  set_work = changes_wider (IsWorkCell task.input task.plan) (IsWorkCell task.input task.plan) (λ c. c ≡ Mark round) (λ c. c ≡ Mark round) mark_work mark_work [] old set mark

  pub erased_work : (erased : State) → ChangesOnly (IsSourceSlot task.input task.plan round) set erased → ChangesOnly (IsWorkCell task.input task.plan) old erased
  erased_work erased erase = changes_then (IsWorkCell task.input task.plan) (IsWorkCell task.input task.plan) [] [] old set erased set_work
      (changes_wider (IsWorkCell task.input task.plan) (IsWorkCell task.input task.plan) (IsSourceSlot task.input task.plan round) (IsSourceSlot task.input task.plan round) from_work from_work [] set erased erase)

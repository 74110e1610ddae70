-- The copies of a round, by the laws of safe images.
use Rattle.mig_lanes.proofs.Common.{All, At, Bool, Cell, Changes, ChangesOnly, Contains, Contains-get_or, Contents, Event, HasCopied, HasDone, Image, IsCopied, IsCopy, IsInUse, IsJobCell}
use Rattle.mig_lanes.proofs.Common.{IsLegal, IsSettled, IsSound, IsSoundAfter, IsSourceSlot, IsTaken, IsTargetOf, IsTargetSlot, IsTask, IsWorkCell, LeavesOnly, List, Option, SameBut, Shift, Some}
use Rattle.mig_lanes.proofs.Common.{Spot, State, Task, Tells, [], ap, arith, at_target, changes_leave, changes_then, changes_wider, contains_any, copies_of, get_or, inl, inr, leaves, length}
use Rattle.mig_lanes.proofs.Common.{on_disks, other_bytes, refl, round_at, same_then, same_wider, slot_apart, slot_of, sound_after, subst, suc, tells_kept, told_is, zero, zeros, ℕ, ◌++◌}
use Rattle.mig_lanes.proofs.Common.{◌<◌, ◌∙◌, ◌≡◌, ◌≤◌}
use Rattle.mig_lanes.proofs.RoundCopies.{of_shifts, target_slot}

module _ (task : Task) (is : IsTask task) (k : ℕ) (lt : k < length task.plan) where
  legal : IsLegal task.input (At task.input task.plan k) (round_at task.plan (suc k))
  legal = is.runs.rounds k lt

  from_here : (s : Shift) → Contains (round_at task.plan (suc k)) s → At task.input task.plan k s.item.0 ≡ Some s.from
  from_here = leaves task.input (At task.input task.plan k) (round_at task.plan (suc k)) legal

  -- a slot that a round goes to is one of the job's cells
  target_job : (s : Shift) → Contains (round_at task.plan (suc k)) s → IsJobCell task.input task.plan (slot_of task.input s.to)
  target_job s has = inr (s.to, (suc k, inr (has.0, s, has.1, has.2, refl)), refl)

  -- the source of a shift of a round is on a disk
  left_on_disk : (r : ℕ) → r ≤ length task.plan → (s : Shift) → Contains (round_at task.plan r) s → s.from.disk.0 < length task.input.disks
  left_on_disk zero le s has = absurd (let none = has.1 in omega arith)
  left_on_disk (suc r) le s has = (on_disks task is (suc r) (omega arith) le s has).0

  module _ (asked : Bool) (contents : Contents) (old : State) (done : HasDone asked task.input task.plan task.digest contents old k) (round : ℕ) (next : round ≡ suc k) where
    abbrev pub Sound : Image → Type 0
    Sound = IsSound asked task.input task.plan task.digest contents

    to_slot : (cell : Cell) → IsTargetOf (copies_of task round) cell → IsTargetSlot task.input task.plan (suc k) cell
    to_slot cell any = subst (λ (n : ℕ). IsTargetSlot task.input task.plan n cell) next (target_slot task round cell any)

    -- while the copies are made
    copying : (before image : Image) → old.may_leave before → SameBut (IsTargetOf (copies_of task round)) before image → IsSoundAfter asked task.input task.plan task.digest contents image k
    copying before image left same = other_bytes task.input is.valid task.plan is.runs task.digest contents k (omega arith) asked old.reads image
        (same_then (IsInUse task.input task.plan k) old.reads before image
        (same_wider (IsSourceSlot task.input task.plan k) (IsInUse task.input task.plan k) (λ cell of. inl of) old.reads before (done.settled before left))
        (same_wider (IsTargetOf (copies_of task round)) (IsInUse task.input task.plan k) (λ cell of. inr (to_slot cell of)) before image same))
        done.sound

    pub exit_copy : (added : List Event) (copied : State) → Changes (IsTargetOf (copies_of task round)) (IsTargetOf (copies_of task round)) added old copied → LeavesOnly Sound old copied
    exit_copy added copied copy = changes_leave Sound (IsTargetOf (copies_of task round)) (IsTargetOf (copies_of task round)) added old copied copy
        (λ before image left same. sound_after task.input is.valid task.plan is.runs task.digest contents k (omega arith) asked image (copying before image left same))

    -- once the copies are settled
    module _ (added : List Event) (synced : State) (copy : Changes (IsTargetOf (copies_of task round)) (IsTargetOf (copies_of task round)) added old synced) (settled : IsSettled synced)
        (copies : All (λ c. IsCopy (old.reads c.from) (synced.reads c.to)) (copies_of task round)) where
      tells_synced : Tells (IsJobCell task.input task.plan) synced.reads
      tells_synced = tells_kept (IsTargetOf (copies_of task round)) (IsJobCell task.input task.plan) old.reads synced.reads copy.told done.tells

      copied_sound : IsSoundAfter asked task.input task.plan task.digest contents synced.reads k
      copied_sound = other_bytes task.input is.valid task.plan is.runs task.digest contents k (omega arith) asked old.reads synced.reads
          (same_wider (IsTargetOf (copies_of task round)) (IsInUse task.input task.plan k) (λ cell of. inr (to_slot cell of)) old.reads synced.reads copy.told) done.sound

      copied_shifts : All (λ s. IsCopy (old.reads (slot_of task.input s.from)) (synced.reads (slot_of task.input s.to))) (round_at task.plan (suc k))
      copied_shifts = subst (λ (n : ℕ). All (λ s. IsCopy (old.reads (slot_of task.input s.from)) (synced.reads (slot_of task.input s.to))) (round_at task.plan n)) next
          (of_shifts task.input (λ c. IsCopy (old.reads c.from) (synced.reads c.to)) (round_at task.plan round) copies)

      is_copied : IsCopied task.input task.plan contents synced.reads k
      is_copied = record {
        targets = λ j d in_range. target (get_or (round_at task.plan (suc k)) j d) (Contains-get_or (round_at task.plan (suc k)) j d in_range) (copied_shifts j d in_range);
        sources = λ j d in_range free. source (get_or (round_at task.plan k) j d) (done.erased j d in_range) free (left_on_disk k (omega arith) (get_or (round_at task.plan k) j d) (Contains-get_or (round_at task.plan k) j d in_range));
      }
        where
          target : (s : Shift) → Contains (round_at task.plan (suc k)) s → IsCopy (old.reads (slot_of task.input s.from)) (synced.reads (slot_of task.input s.to)) → synced.reads (slot_of task.input s.to) ≡ Some (contents s.item.0)
          target s has copied =
              told_is _ _ (tells_synced (slot_of task.input s.to) (target_job s has))
              (subst (λ (o : Option (List ℕ)). IsCopy o (synced.reads (slot_of task.input s.to))) (done.sound.after.safe.stand s.item.0 s.from (from_here s has)) copied)

          source : (s : Shift) → old.reads (slot_of task.input s.from) ≡ Some zeros → (IsTaken (At task.input task.plan (suc k)) s.from → ⊥) → s.from.disk.0 < length task.input.disks → synced.reads (slot_of task.input s.from) ≡ Some zeros
          source s was free disk = copy.told.same (slot_of task.input s.from) (λ any. not_target (to_slot (slot_of task.input s.from) any)) ∙ was
            where
              not_target : IsTargetSlot task.input task.plan (suc k) (slot_of task.input s.from) → ⊥
              not_target (spot, to, same) =
                  let has = contains_any (λ (t : Shift). t.to ≡ spot) (round_at task.plan (suc k)) to in
                  let there = subst (λ (p : Spot). p.disk.0 < length task.input.disks) to.4 (on_disks task is (suc k) (omega arith) (omega arith) to.1 has).1 in
                  let at = slot_apart task.input is.valid spot s.from there disk same in
                  free (to.1.item.0, at_target task.input (At task.input task.plan k) (round_at task.plan (suc k)) legal to.1 has ∙ ap Some (to.4 ∙ at))

      pub has_copied : HasCopied asked task contents synced k
      has_copied = record { sound = copied_sound; copied = is_copied; settled = settled; tells = tells_synced }

-- The cells that the copies change

module _ (task : Task) (round : ℕ) (low : 1 ≤ round) (high : round ≤ length task.plan) (old copied : State) (added : List Event) (copy : Changes (IsTargetOf (copies_of task round)) (IsTargetOf (copies_of task round)) added old copied) where
  to_work : (cell : Cell) → IsTargetOf (copies_of task round) cell → IsWorkCell task.input task.plan cell
  to_work cell any = let at = target_slot task round cell any in inr (at.0, (round, inr at.1), at.2)

  pub copy_work : Changes (IsWorkCell task.input task.plan) (IsWorkCell task.input task.plan) added old copied
  copy_work = changes_wider (IsWorkCell task.input task.plan) (IsWorkCell task.input task.plan) (IsTargetOf (copies_of task round)) (IsTargetOf (copies_of task round)) to_work to_work added old copied copy

  -- and what changes after them
  pub closed_work : (new : State) → ChangesOnly (IsWorkCell task.input task.plan) copied new → Changes (IsWorkCell task.input task.plan) (IsWorkCell task.input task.plan) (added ++ []) old new
  closed_work new close = changes_then (IsWorkCell task.input task.plan) (IsWorkCell task.input task.plan) added [] old copied new copy_work close

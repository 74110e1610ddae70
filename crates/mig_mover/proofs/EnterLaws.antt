-- How a migration is entered from a settled store.
use Rattle.mig_mover.proofs.Common.{All, At, Bool, Cell, ChangesOnly, Contents, EntersOn, Gate, HasContents, HasHeader, Head, HoldsZeros, IfSome}
use Rattle.mig_mover.proofs.Common.{Image, InputLists, IsArming, IsCleanAt, IsFresh, IsInUse, IsJobCell, IsJournal, IsMark, IsReady, IsReadyIdle}
use Rattle.mig_mover.proofs.Common.{IsRunning, IsSafeAt, IsSettled, IsSome, IsSound, IsSoundAfter, IsSourceSlot, IsState, IsTask, KeepsOn, LeavesOnly}
use Rattle.mig_mover.proofs.Common.{List, Mark, NoCell, None, Option, SameBut, Some, Spot, State, Task, Tells, [], ap, arith, cases_Bool}
use Rattle.mig_mover.proofs.Common.{changes_wider, cond-true, count_idle, count_of, false, false≢true, first_byte, flights, flights_same, fresh_sound}
use Rattle.mig_mover.proofs.Common.{from_same, get_or, get_or_default, idle_sound, idle_stand, inl, inr, is_armed, is_marked, is_one, item_name}
use Rattle.mig_mover.proofs.Common.{leaves_then, leaves_wider, length, other_bytes, prefix_len, quiet_leaves, range_with_len, refl, round_at}
use Rattle.mig_mover.proofs.Common.{same_then, same_wider, settled_change, slot_of, sound_after, subst, sym, tells_kept, told_is, told_kept}
use Rattle.mig_mover.proofs.Common.{true, ℕ, ◌∙◌, ◌∷◌, ◌≡◌, ◌≤◌}
use Rattle.mig_mover.proofs.Settling.{after_quiet, quiet_wider, settled_leave}

zero_mark : (cell : Option (List ℕ)) → IfSome cell (λ bytes. bytes ≡ 0 ∷ []) → is_one cell ≡ false
zero_mark None is = refl
zero_mark (Some bytes) is = ap (λ (l : List ℕ). is_one (Some l)) is

one_gate : (cell : Option (List ℕ)) → IsSome cell → IfSome cell (λ bytes. bytes ≡ 1 ∷ []) → is_one cell ≡ true
one_gate cell some is = ap is_one (told_is cell (1 ∷ []) some is)

slot_no_journal : (input : InputLists) (rounds : ℕ) (spot : Spot) → IsJournal rounds (slot_of input spot) → ⊥
slot_no_journal input rounds spot (inl head) = cc
slot_no_journal input rounds spot (inr (inl gate)) = cc
slot_no_journal input rounds spot (inr (inr mark)) = let e = mark.3 in cc

module _ (task : Task) where
  gate_job : IsJobCell task.input task.plan Gate
  gate_job = inl (inr (inl refl))

  source_job : (r : ℕ) (cell : Cell) → IsSourceSlot task.input task.plan r cell → IsJobCell task.input task.plan cell
  source_job r cell at = inr (at.0, (r, inl at.1), at.2)

  -- an image that differs from a ready one in the journal alone
  ready_same : (old image : Image) → IsReady task.input task.plan old → SameBut (IsJournal (length task.plan)) old image → IsReadyIdle task image
  ready_same old image ready same idle = record {
    idle = idle;
    there = λ item in_range shifted. subst (λ (o : Option (List ℕ)). IfSome o (HasHeader (item_name task.input item))) (sym (slot_same _)) (ready.there item in_range shifted);
    unused = λ j d in_range free. subst (λ (o : Option (List ℕ)). IfSome o (λ slot. first_byte slot ≡ 1 → ⊥)) (sym (slot_same _)) (ready.unused j d in_range free);
  }
    where
      slot_same : (spot : Spot) → image (slot_of task.input spot) ≡ old (slot_of task.input spot)
      slot_same spot = same.same (slot_of task.input spot) (slot_no_journal task.input (length task.plan) spot)

  -- after something that changes nothing
  pub on_quiet : (old mid : State) → IsState old → ChangesOnly NoCell old mid → old.faults ≤ mid.faults → KeepsOn task old mid
  on_quiet old mid law quiet later = record {
    sound = λ asked contents tells sound. quiet_leaves _ NoCell [] old mid law quiet;
    ready = λ tells ready. quiet_leaves _ NoCell [] old mid law quiet;
    change = quiet_wider quiet;
    later = later;
  }

  -- while the journal of a store that was looked at and is ready is armed
  module _ (is : IsTask task) (old mid new : State) (law : IsState old) (settled : IsSettled old) (idle : is_armed old.reads ≡ false)
      (quiet : ChangesOnly NoCell old mid) (ready : IsReady task.input task.plan old.reads)
      (arming : LeavesOnly (IsArming (length task.plan) task.digest mid) mid new) (arms : ChangesOnly (IsJournal (length task.plan)) mid new) where
    change : ChangesOnly (IsJournal (length task.plan)) old new
    change = after_quiet quiet arms

    -- a crash leaves what was, or an image while the journal is armed
    leave : (P : Image → Type 0) → ((image : Image) → IsArming (length task.plan) task.digest mid image → P image) → LeavesOnly P old new
    leave P gives = leaves_then P old mid new (quiet_leaves P NoCell [] old mid law quiet) (leaves_wider P _ mid new gives arming)

    arming_same : (image : Image) → IsArming (length task.plan) task.digest mid image → SameBut (IsJournal (length task.plan)) old.reads image
    arming_same image at =
        let from = quiet.crash at.before at.left in
        from_same _ old.reads at.before image (same_then NoCell old.reads from.0 at.before (settled from.0 from.1) from.2) at.others

    stand_same : (contents : Contents) (image : Image) → SameBut (IsJournal (length task.plan)) old.reads image
        → HasContents task.input (At task.input task.plan 0) contents old.reads → HasContents task.input (At task.input task.plan 0) contents image
    stand_same contents image same stand item spot at =
        same.same (slot_of task.input spot) (slot_no_journal task.input (length task.plan) spot) ∙ stand item spot at

    fresh_after : (asked : Bool) (contents : Contents) (image : Image) → Tells (IsJobCell task.input task.plan) old.reads
        → HasContents task.input (At task.input task.plan 0) contents old.reads → SameBut (IsJournal (length task.plan)) old.reads image
        → is_armed image ≡ true → IsFresh (length task.plan) task.digest image → IsSoundAfter asked task.input task.plan task.digest contents image 0
    fresh_after asked contents image tells stand same armed fresh =
        fresh_sound asked task.input task.plan task.digest contents image (stand_same contents image same stand) armed
        (told_is (image Head) task.digest (told_kept _ old.reads image same Head (tells Head (inl (inl refl)))) fresh.head)
        (λ n low high. zero_mark (image (Mark n)) (fresh.marks n low high))

    sound_arming : (asked : Bool) (contents : Contents) → Tells (IsJobCell task.input task.plan) old.reads
        → HasContents task.input (At task.input task.plan 0) contents old.reads → (image : Image) → IsArming (length task.plan) task.digest mid image
        → IsSound asked task.input task.plan task.digest contents image
    sound_arming asked contents tells stand image at = elim (cases_Bool (is_armed image)) [
      | inl armed ↦ sound_after task.input is.valid task.plan is.runs task.digest contents 0 (omega arith) asked image
          (fresh_after asked contents image tells stand (arming_same image at) armed (at.fresh armed))
      | inr still ↦ idle_sound asked task.input task.plan task.digest contents image (stand_same contents image (arming_same image at) stand) still
    ]

    pub keeps_armed : old.faults ≤ new.faults → KeepsOn task old new
    keeps_armed later = record {
      sound = λ asked contents tells sound.
          leave _ (sound_arming asked contents tells (idle_stand task.input task.plan task.digest contents old.reads sound.safe idle));
      ready = λ tells was. leave _ (λ image at. ready_same old.reads image ready (arming_same image at));
      change = changes_wider _ _ _ _ (λ cell of. inl of) (λ cell of. inl of) [] old new change;
      later = later;
    }

    pub enters_armed : flights old ≡ [] → IfSome (new.reads Gate) (λ bytes. bytes ≡ 1 ∷ []) → IsFresh (length task.plan) task.digest new.reads
        → IsSettled new → EntersOn task old new 0
    enters_armed none gate fresh settled_new = record {
      done = λ asked contents tells sound.
          let now = tells_kept _ (IsJobCell task.input task.plan) old.reads new.reads change.told tells in
          record {
            sound = fresh_after asked contents new.reads tells (idle_stand task.input task.plan task.digest contents old.reads sound.safe idle)
                change.told (one_gate (new.reads Gate) (now Gate gate_job) gate) fresh;
            erased = λ j d lt. absurd (omega arith);
            settled = λ image left. same_wider NoCell (IsSourceSlot task.input task.plan 0) (λ cell out. absurd out) new.reads image (settled_new image left);
            tells = now;
          };
      landed = flights_same old new change.events ∙ none;
      most = omega arith;
      found = λ tells. sym (count_idle (length task.plan) old.reads idle);
      armed = λ told image left. ap is_one ((settled_new image left).same Gate (λ out. out))
          ∙ one_gate (new.reads Gate) (told_kept _ old.reads new.reads change.told Gate told) gate;
      ready = λ still told. ready;
    }

  -- going on after the marked rounds
  module _ (is : IsTask task) (old new : State) (settled : IsSettled old) (running : IsRunning old.reads) (k : ℕ) (most : k ≤ length task.plan)
      (count : Tells (IsMark (length task.plan)) old.reads → k ≡ prefix_len (is_marked old.reads) (range_with_len 1 (length task.plan)))
      (erase : ChangesOnly (IsSourceSlot task.input task.plan k) old new) where
    found : Tells (IsJobCell task.input task.plan) old.reads → k ≡ count_of (length task.plan) old.reads
    found tells = count (λ cell of. tells cell (inl (inr (inr of)))) ∙ sym (cond-true _ _ _ (running (tells Gate gate_job)))

    erasing : (asked : Bool) (contents : Contents) → Tells (IsJobCell task.input task.plan) old.reads
        → IsSound asked task.input task.plan task.digest contents old.reads → (image : Image)
        → SameBut (IsSourceSlot task.input task.plan k) old.reads image → IsSoundAfter asked task.input task.plan task.digest contents image k
    erasing asked contents tells sound image same =
        let armed = running (tells Gate gate_job) in
        other_bytes task.input is.valid task.plan is.runs task.digest contents k most asked old.reads image
        (same_wider _ (IsInUse task.input task.plan k) (λ cell of. inl of) old.reads image same) (record {
          after = record {
            armed = armed;
            count = sym (found tells);
            safe = subst (IsSafeAt task.input task.plan task.digest contents old.reads) (sym (found tells)) sound.safe;
          };
          clean = λ yes. subst (IsCleanAt task.input task.plan old.reads) (sym (found tells)) (sound.clean yes armed);
        })

    gate_same : (image : Image) → SameBut (IsSourceSlot task.input task.plan k) old.reads image → is_armed image ≡ is_armed old.reads
    gate_same image same = ap is_one (same.same Gate (λ at. let e = at.2 in cc))

    pub keeps_erased : old.faults ≤ new.faults → KeepsOn task old new
    keeps_erased later = record {
      sound = λ asked contents tells sound. settled_leave settled erase (λ image same.
          sound_after task.input is.valid task.plan is.runs task.digest contents k most asked image (erasing asked contents tells sound image same));
      ready = λ tells was. settled_leave settled erase (λ image same idle.
          absurd (false≢true (sym idle ∙ gate_same image same ∙ running (tells Gate gate_job))));
      change = changes_wider _ _ _ _ (source_job k) (source_job k) [] old new erase;
      later = later;
    }

    -- the gate stays 1
    pub armed_erased : is_armed old.reads ≡ true → LeavesOnly (λ image. is_armed image ≡ true) old new
    armed_erased armed = settled_leave settled erase (λ image same. gate_same image same ∙ armed)

    pub enters_erased : flights old ≡ [] → All (λ s. HoldsZeros (new.reads (slot_of task.input s.from))) (round_at task.plan k) → EntersOn task old new k
    enters_erased none zeros_there = record {
      done = λ asked contents tells sound.
          let now = tells_kept _ (IsJobCell task.input task.plan) old.reads new.reads erase.told tells in
          record {
            sound = erasing asked contents tells sound new.reads erase.told;
            erased = λ j d lt.
                let s = get_or (round_at task.plan k) j d in
                told_is _ _ (now _ (source_job k _ (s.from, (j, s, lt, get_or_default (round_at task.plan k) j s d lt, refl), refl)))
                (zeros_there j d lt);
            settled = settled_change _ [] old new erase (λ image left.
                same_wider NoCell (IsSourceSlot task.input task.plan k) (λ cell out. absurd out) old.reads image (settled image left));
            tells = now;
          };
      landed = flights_same old new erase.events ∙ none;
      most = most;
      found = found;
      armed = λ told image left.
          let from = erase.crash image left in
          gate_same image (from_same _ old.reads from.0 image (settled from.0 from.1) from.2) ∙ running told;
      ready = λ idle told. absurd (false≢true (sym idle ∙ running told));
    }

-- A store that is ready for a plan, and tells its cells, shows no ground to refuse it.
use Rattle.mig_mover.proofs.Common.{All-contains, At, At-item, CanTake, Cell, Contains, Err, HasGround, HasHeader, IfSome, Image, InputLists}
use Rattle.mig_mover.proofs.Common.{IsFreeSlot, IsJobCell, IsKept, IsLast, IsListedCell, IsName, IsPlanSpot, IsReady, IsShifted, IsShiftedName}
use Rattle.mig_mover.proofs.Common.{IsSome, IsSomeAnd, IsTaken, IsTask, IsUnused, List, None, Ok, Option, Result, Shift, Sights, Some, Spot, State}
use Rattle.mig_mover.proofs.Common.{Task, Tells, [], ap, arith, cases_lt, cell_at, contains_any, false≢true, first_byte, get_or_from_slice_get}
use Rattle.mig_mover.proofs.Common.{in_some, inl, inr, item_cell, item_name, leaves, length, made_slot, moved_cases, no_round, no_spot, option_map}
use Rattle.mig_mover.proofs.Common.{refl, round_at, shifts_of, slice_get, slice_get-get_or, slice_get_within, slot_of, subst, suc, sym, take, zero, ℕ}
use Rattle.mig_mover.proofs.Common.{⊎_elim, ◌<◌, ◌∙◌, ◌∷◌, ◌≡◌, ◌≤◌}
use Rattle.std.specs.Prelude.{slice_index, slice_index_or}
use Rattle.mig_journal.proofs.Steps.{only_rose}
use Rattle.mig_base.specs.Stores.{HasCause}
use Rattle.mig_store.specs.Grounds.{AreZeros as AllZeros}
use Rattle.mig_jobs.proofs.VacancyLaws.{source_taken}
use Rattle.mig_mover.proofs.AskedSlots.{in_plan}
use Rattle.mig_mover.proofs.SeenSlots.{some_and}
use Rattle.mig_mover.proofs.ShiftedSlots.{shifted_named}
use Rattle.mig_mover.proofs.TargetLaws.{in_round}

-- a slot with an item's header is used
first_of : (bytes : List ℕ) → slice_index_or (take 34 bytes) 0 0 ≡ slice_index_or bytes 0 0
first_of [] = refl
first_of (b ∷ bytes) = refl

used_by : (name bytes : List ℕ) → HasHeader name bytes → first_byte bytes ≡ 1
used_by name bytes has = sym (first_of bytes) ∙ ap (λ (l : List ℕ). slice_index_or l 0 0) has

-- an unused slot that is told holds no item
pub unused_not_last : (input : InputLists) (image : Image) (spot : Spot) → Contains input.spots spot → Tells (IsListedCell input) image → IsUnused input image spot → {seen : Sights} → IsLast image seen (slot_of input spot) → ⊥
unused_not_last input image spot has tells unused last = by (image (slot_of input spot)) (tells (slot_of input spot) (spot, has, refl)) unused last.held
  where
    by : (o : Option (List ℕ)) → IsSome o → IfSome o (λ bytes. first_byte bytes ≡ 1 → ⊥) → IfSome o (HasHeader last.item) → ⊥
    by None told not held = false≢true told
    by (Some bytes) told not held = not (used_by last.item bytes held)

-- a made slot isn't zeros
pub made_not_zeros : (bytes name : List ℕ) → bytes ≡ made_slot name → AllZeros bytes → ⊥
made_not_zeros bytes name is zeros =
    let one : slice_index bytes 0 ≡ 1 = ap (λ (l : List ℕ). slice_index l 0) is in
    let some : 0 < length bytes = omega (arith, ap (λ (l : List ℕ). length l) is) in
    absurd (omega (arith, one, zeros 0 some))

-- where there is no ground, a call failed
pub none_cause : {T E R G : Type 0} {old new : State} (r : Result T E) → (G → ⊥) → HasGround R G old new r → HasCause old new r
none_cause (Ok x) none ground = record { later = ground.later; failed = tt }
none_cause (Err e) none ground = record { later = ground.later; failed = only_rose none ground.failed }

module _ (task : Task) (is : IsTask task) where
  -- a spot that is free now and taken after some rounds is the target of a shift
  first_target : (r : ℕ) (spot : Spot) → r ≤ length task.plan → (IsTaken (At task.input task.plan zero) spot → ⊥) → IsTaken (At task.input task.plan r) spot → (s : Shift) × Contains (shifts_of task.plan) s × (s.to ≡ spot)
  first_target zero spot le free taken = absurd (free taken)
  first_target (suc r) spot le free taken = ⊎_elim
      (λ last. (last.0, in_plan task.plan r last.0 (omega (arith, le)) last.1, in_some last.0.to spot (sym last.3 ∙ taken.1)))
      (λ none. first_target r spot (omega (arith, le)) free (taken.0, sym none.1 ∙ taken.1))
      (moved_cases (At task.input task.plan r) (round_at task.plan (suc r)) taken.0)

  -- a spot of the plan that is free now is one
  free_target : (spot : Spot) → IsPlanSpot task.plan spot → (IsTaken (At task.input task.plan zero) spot → ⊥) → (s : Shift) × Contains (shifts_of task.plan) s × (s.to ≡ spot)
  free_target spot (zero, inl source) free = absurd (let none = source.2 in omega arith)
  free_target spot (zero, inr target) free = absurd (let none = target.2 in omega arith)
  free_target spot (suc r, inl source) free = elim (cases_lt r (length task.plan)) [
    | inl lt ↦ first_target r spot (omega arith) free (source_taken task.input is.valid task.plan is.runs r spot lt source)
    | inr past ↦ absurd (let empty = no_round task.input is.valid task.plan is.runs r past in let lt = source.2 in omega arith)
  ]
  free_target spot (suc r, inr target) free = elim (cases_lt r (length task.plan)) [
    | inl lt ↦ (target.1, in_plan task.plan r target.1 lt (contains_any (λ (s : Shift). s.to ≡ spot) (round_at task.plan (suc r)) target), target.4)
    | inr past ↦ absurd (let empty = no_round task.input is.valid task.plan is.runs r past in let lt = target.2 in omega arith)
  ]

  pub ready_kept : (image : Image) → Tells (IsJobCell task.input task.plan) image → IsReady task.input task.plan image → IsKept task image 0
  ready_kept image tells ready = record { items = items; free = free; alike = λ i d lt. absurd (omega (arith, lt)) }
    where
      -- an item that is shifted is one of the input's
      in_range : (item : ℕ) → IsShifted task.plan item → IsSome (slice_get task.input.spots item)
      in_range item shift =
          let at = in_round task.plan shift.1 (shift.0, shift.2, shift.3) in
          let lt = At-item task.input task.plan at.0 shift.1.item.0 shift.1.from is.runs (let l = at.1 in omega arith) (leaves task.input (At task.input task.plan at.0) (round_at task.plan (suc at.0)) (is.runs.rounds at.0 at.1) shift.1 at.2) in
          subst IsSome (sym (slice_get-get_or task.input.spots item no_spot (subst (λ (n : ℕ). n < length task.input.spots) shift.4 lt))) refl

      told : (spot : Spot) → IsPlanSpot task.plan spot → IsSome (image (slot_of task.input spot))
      told spot named = tells (slot_of task.input spot) (inr (spot, named, refl))

      items : (item : ℕ) → IsShifted task.plan item → IsSomeAnd (cell_at task 0 item) (λ cell. IsSomeAnd (image cell) (HasHeader (item_name task.input item)))
      items item shift = by (slice_get task.input.spots item) refl (in_range item shift)
        where
          by : (o : Option Spot) → slice_get task.input.spots item ≡ o → IsSome o → IsSomeAnd (option_map (slot_of task.input) o) (λ cell. IsSomeAnd (image cell) (HasHeader (item_name task.input item)))
          by None at some = absurd (false≢true some)
          by (Some spot) at some =
              let lt = slice_get_within task.input.spots item spot at in
              let cell : item_cell task.input item ≡ slot_of task.input spot = ap (slot_of task.input) (get_or_from_slice_get task.input.spots item spot no_spot at) in
              some_and (HasHeader (item_name task.input item)) (image (slot_of task.input spot)) (told spot (shifted_named task.input task.plan is.runs item spot at shift))
              (subst (λ (c : Cell). IfSome (image c) (HasHeader (item_name task.input item))) cell (ready.there item (omega (arith, lt, is.valid.spots_len)) shift))

      free : (cell : Cell) → IsFreeSlot task.input task.plan 0 cell → IsSomeAnd (image cell) (λ bytes. (name : List ℕ) → IsName name → HasHeader name bytes → IsShiftedName task name)
      free cell (spot, inl now, vacant, same) = absurd (vacant (now.0, slice_get-get_or task.input.spots now.0 spot now.1 ∙ ap Some now.2))
      free cell (spot, inr named, vacant, same) =
          let found = free_target spot named vacant in
          let can = All-contains (CanTake task.input image) (shifts_of task.plan) found.0 ready.unused found.1 in
          let out : Contains task.input.spots found.0.to → ⊥ = λ now. vacant (now.0, slice_get-get_or task.input.spots now.0 found.0.to now.1 ∙ ap Some (now.2 ∙ found.2)) in
          let unused = subst (λ (p : Spot). IsUnused task.input image p) found.2 (can out) in
          subst (λ (c : Cell). IsSomeAnd (image c) (λ bytes. (name : List ℕ) → IsName name → HasHeader name bytes → IsShiftedName task name)) same
          (none (image (slot_of task.input spot)) (told spot named) unused)
        where
          none : (o : Option (List ℕ)) → IsSome o → IfSome o (λ bytes. first_byte bytes ≡ 1 → ⊥) → IsSomeAnd o (λ bytes. (name : List ℕ) → IsName name → HasHeader name bytes → IsShiftedName task name)
          none None told not = absurd (false≢true told)
          none (Some bytes) told not = λ name is_name has. absurd (not (used_by name bytes has))

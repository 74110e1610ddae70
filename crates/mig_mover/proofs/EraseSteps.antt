-- The steps of a loop over a round that erases what its shifts leave.
use Rattle.mig_mover.proofs.Common.{AllWithin, Cell, Flight, HoldsZeros, IfSome, Image, InputLists, IsPlanSlot, IsSourceSlot, IsTrue, List, Option}
use Rattle.mig_mover.proofs.Common.{SameBut, Shift, Some, ap, at_map, cases_cell, flight_of, flights_of, get_or, get_or_default, inl, inr, is_slot}
use Rattle.mig_mover.proofs.Common.{length, no_shift, not, refl, round_at, slice_get, slice_get-get_or, slot_of, subst, sym, ℕ, ◌+◌, ◌<◌, ◌∙◌, ◌≡◌}
use Rattle.mig_mover.proofs.TargetLaws.{next_within}

-- the copy at a place is that of the shift there
pub copy_of : (input : InputLists) (shifts : List Shift) (place : ℕ) (f : Flight) (d : Shift) → place < length shifts
    → slice_get (flights_of input shifts) place ≡ Some f
    → f ≡ flight_of input (get_or shifts place d)
copy_of input shifts place f d lt at =
    let both : Some f ≡ Some (flight_of input (get_or shifts place d)) =
    sym at ∙ at_map (flight_of input) shifts place (get_or shifts place d) (slice_get-get_or shifts place d lt) in
    cc

-- what holds of the copy at a place
pub of_copy : (Q : Flight → Type 0) (input : InputLists) (shifts : List Shift) (place : ℕ) → place < length shifts
    → IfSome (slice_get (flights_of input shifts) place) Q → Q (flight_of input (get_or shifts place no_shift))
of_copy Q input shifts place lt here = subst (λ (o : Option Flight). IfSome o Q)
    (at_map (flight_of input) shifts place (get_or shifts place no_shift) (slice_get-get_or shifts place no_shift lt)) here

-- a slot that holds zeros still does once a slot is erased
pub zeros_stay : (slot : Cell) (old new : Image) → SameBut (λ c. c ≡ slot) old new → HoldsZeros (new slot) → (cell : Cell) → HoldsZeros (old cell)
    → HoldsZeros (new cell)
zeros_stay slot old new step erased cell was = elim (cases_cell cell slot) [
  | inl is ↦ subst (λ (c : Cell). HoldsZeros (new c)) (sym is) erased
  | inr not ↦ subst HoldsZeros (sym (step.same cell not)) was
]

module _ (input : InputLists) (plan : List (List Shift)) (round place : ℕ) (lt : place < length (round_at plan round)) (f : Flight) (d : Shift)
    (at : slice_get (flights_of input (round_at plan round)) place ≡ Some f) where
  pub from_source : (cell : Cell) → cell ≡ f.from → IsSourceSlot input plan round cell
  from_source cell is =
      let s = get_or (round_at plan round) place d in
      let same = ap (λ (h : Flight). h.from) (copy_of input (round_at plan round) place f d lt at) in
      (s.from, (place, s, lt, get_or_default (round_at plan round) place s d lt, refl), sym (is ∙ same))

  -- the plan names both slots
  pub from_named : IsPlanSlot input plan f.from
  from_named = let s = from_source f.from refl in (s.0, (round, inl s.1), s.2)

  pub to_named : IsPlanSlot input plan f.to
  to_named =
      let s = get_or (round_at plan round) place d in
      let same = ap (λ (h : Flight). h.to) (copy_of input (round_at plan round) place f d lt at) in
      (s.to, (round, inr (place, s, lt, get_or_default (round_at plan round) place s d lt, refl)), sym same)

-- both slots of a copy are slots, and the round leaves the first
module _ (input : InputLists) (plan : List (List Shift)) (round place : ℕ) (lt : place < length (round_at plan round)) {f : Flight}
    (at : slice_get (flights_of input (round_at plan round)) place ≡ Some f) where
  is_copy : f ≡ flight_of input (get_or (round_at plan round) place no_shift)
  is_copy = copy_of input (round_at plan round) place f no_shift lt at

  pub both_slots : IsTrue (is_slot f.from) × IsTrue (is_slot f.to)
  both_slots = (ap (λ (h : Flight). is_slot h.from) is_copy, ap (λ (h : Flight). is_slot h.to) is_copy)

  pub left_slot : IsSourceSlot input plan round f.from
  left_slot = from_source input plan round place lt f no_shift at f.from refl

  -- one slot more is erased
  pub erased_more : {old new : Image} → SameBut (λ c. c ≡ f.from) old new
      → AllWithin (λ s. HoldsZeros (old (slot_of input s.from))) (round_at plan round) 0 place
      → HoldsZeros (new f.from) → AllWithin (λ s. HoldsZeros (new (slot_of input s.from))) (round_at plan round) 0 (place + 1)
  erased_more {old} {new} step sofar erased = next_within (λ (s : Shift). HoldsZeros (new (slot_of input s.from))) (round_at plan round) place
      no_shift lt
      (λ k e low high. zeros_stay f.from old new step erased _ (sofar k e low high)) (subst (λ (h : Flight). HoldsZeros (new h.from)) is_copy erased)

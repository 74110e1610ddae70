-- The taken spots of a list, before a round and after it.
use Rattle.mig_check.proofs.Common.{Any-from_list_any, Bool, Contains, Err, Free, HaveRoom, IfNone, IfOk, IfSome, IsFirstShift, IsFree, IsLayout, IsLegal, IsTaken, IsTakenSet, LacksSlot}
use Rattle.mig_check.proofs.Common.{InputLists, LacksSlotIn, Layout, List, None, Ok, Option, Passes, Result, Shift, Some, Spot, SpotSet, after_shifts, ap, arith, at_target, cases_Bool, false}
use Rattle.mig_check.proofs.Common.{false≢true, get_or_default, get_or_from_slice_get, in_some, inl, inr, is_source, layout_of, leaves, length, list_any, list_any-from_Any, moved_cases, no_shift}
use Rattle.mig_check.proofs.Common.{not, refl, same_spot, shift_at, slice_get-get_or, slice_get_within, subst, sym, take, take-length, target_free, true, ℕ, ⊎_elim, ◌&&◌, ◌<◌, ◌∙◌, ◌≡◌}
use Rattle.mig_check.proofs.Rooms.{not_both, spot_is, spot_itself}

-- all spots of a list
pub list_taken : (taken : SpotSet) (spots : List Spot) (i : ℕ) → i ≡ length spots → ((t : Spot) → taken t ≡ list_any (λ s. same_spot s t) (take i spots)) → IsTakenSet taken (layout_of spots)
list_taken taken spots i whole has t = (known, held)
  where
    is : taken t ≡ list_any (λ s. same_spot s t) spots
    is = has t ∙ ap (λ (xs : List Spot). list_any (λ s. same_spot s t) xs) (ap (λ (n : ℕ). take n spots) whole ∙ take-length spots)

    known : taken t ≡ true → IsTaken (layout_of spots) t
    known h = let found = Any-from_list_any (λ s. same_spot s t) spots (sym is ∙ h) in
        (found.0, slice_get-get_or spots found.0 t found.2 ∙ ap (λ (p : Spot). Some p) (get_or_default spots found.0 t found.1 found.2 ∙ (found.3 ∙ spot_is found.1 t found.4)))

    held : IsTaken (layout_of spots) t → taken t ≡ true
    held w = is ∙ list_any-from_Any (λ s. same_spot s t) spots (w.0, t, slice_get_within spots w.0 t w.1, get_or_from_slice_get spots w.0 t t w.1, spot_itself t)

module _ (input : InputLists) (layout : Layout) (taken : SpotSet) (round : List Shift) (are : IsTakenSet taken layout) where
  up : (k : ℕ) → LacksSlotIn input.disks taken round k → LacksSlot input layout round k
  up k h = elim h [ inl none ↦ inl none | inr rest ↦ elim rest [ inl t ↦ inr (inl ((are (shift_at round k).to).0 t)) | inr w ↦ inr (inr w) ] ]

  down : (k : ℕ) → LacksSlot input layout round k → LacksSlotIn input.disks taken round k
  down k h = elim h [ inl none ↦ inl none | inr rest ↦ elim rest [ inl t ↦ inr (inl ((are (shift_at round k).to).1 t)) | inr w ↦ inr (inr w) ] ]

  pub room_blame : (item : ℕ) → IsFirstShift round (LacksSlotIn input.disks taken round) item → IsFirstShift round (LacksSlot input layout round) item
  room_blame item f = (f.0, f.1, record { holds = up f.0 f.2.holds; least = λ k l bad. f.2.least k l (down k bad) }, f.3)

  pub room_free : (filled : SpotSet) → HaveRoom input.disks taken round (length round) filled → Passes input layout round Free
  room_free filled r =
      let P : Shift → Type 0 = λ s. IsFree input layout s.to in (
        λ k d h. subst P (get_or_default round k no_shift d h) (r.slots k h, λ w. not_both (taken (shift_at round k).to) ((are (shift_at round k).to).1 w) (r.free k h)),
        λ j k d l h same. r.apart j k l h (ap (λ (s : Shift). s.to) (get_or_default round j no_shift d (omega arith)) ∙ same ∙ ap (λ (s : Shift). s.to) (get_or_default round k d no_shift h)),
      )

-- after a round

source_of : (round : List Shift) (t : Spot) → is_source round t ≡ true → (s : Shift) × Contains round s × (s.from ≡ t)
source_of round t h = let any = Any-from_list_any (λ s. same_spot s.from t) round h in (any.1, (any.0, any.2, any.3), spot_is any.1.from t any.4)

is_source_of : (round : List Shift) (s : Shift) → Contains round s → is_source round s.from ≡ true
is_source_of round s has = list_any-from_Any (λ u. same_spot u.from s.from) round (has.0, s, has.1, has.2, spot_itself s.from)

both_true : (b c : Bool) → (not b && c) ≡ true → (b ≡ false) × (c ≡ true)
both_true true c h = absurd (false≢true h)
both_true false c h = (refl, h)

module _ (input : InputLists) (layout : Layout) (round : List Shift) (legal : IsLegal input layout round) (is : IsLayout input layout) (taken filled freed : SpotSet) (are : IsTakenSet taken layout) (room : HaveRoom input.disks taken round (length round) filled) (after : (t : Spot) → freed t ≡ (not (is_source round t) && filled t)) where
  place_of : (k : ℕ) → k < length round → Contains round (shift_at round k)
  place_of k h = (k, h, get_or_default round k (shift_at round k) no_shift h)

  known : (t : Spot) → is_source round t ≡ false → filled t ≡ true → IsTaken (after_shifts layout round) t
  known t no_source full = elim (room.only t full) [
    | inl was ↦ (let w = (are t).0 was in ⊎_elim
        (λ last. absurd (not_both (is_source round t) (subst (λ (p : Spot). is_source round p ≡ true) (in_some last.0.from t (sym (leaves input layout round legal last.0 last.1) ∙ ap layout last.2 ∙ w.1)) (is_source_of round last.0 last.1)) no_source))
        (λ none. (w.0, none.1 ∙ w.1))
        (moved_cases layout round w.0))
    | inr w ↦ ((shift_at round w.0).item.0, at_target input layout round legal (shift_at round w.0) (place_of w.0 w.1) ∙ ap (λ (p : Spot). Some p) w.2)
  ]

  kept : (t : Spot) → filled t ≡ true → ((s : Shift) → Contains round s → s.from ≡ t → ⊥) → freed t ≡ true
  kept t full none = elim (cases_Bool (is_source round t)) [
    | inl source ↦ (let s = source_of round t source in absurd (none s.0 s.1 s.2))
    | inr not ↦ after t ∙ rw (not, full) refl
  ]

  held : (t : Spot) → IsTaken (after_shifts layout round) t → freed t ≡ true
  held t w = ⊎_elim
      (λ last.
      let at : last.0.to ≡ t = in_some last.0.to t (sym last.3 ∙ w.1) in
      let place = last.1 in
      let full : filled t ≡ true = ap filled (sym (ap (λ (s : Shift). s.to) (get_or_default round place.0 no_shift last.0 place.1 ∙ place.2) ∙ at)) ∙ room.targets place.0 place.1 in
      kept t full (λ s has e. target_free input layout round legal last.0 place s.item.0 (leaves input layout round legal s has ∙ ap (λ (p : Spot). Some p) (e ∙ sym at))))
      (λ none.
      let was : layout w.0 ≡ Some t = sym none.1 ∙ w.1 in
      kept t (room.old t ((are t).1 (w.0, was))) (λ s has e. none.0 s has (is.apart s.item.0 w.0 t (leaves input layout round legal s has ∙ ap (λ (p : Spot). Some p) e) was)))
      (moved_cases layout round w.0)

  pub taken_after : IsTakenSet freed (after_shifts layout round)
  taken_after t = (λ h. let b = both_true (is_source round t) (filled t) (sym (after t) ∙ h) in known t b.0 b.1, held t)

pub none_mapped : {X E : Type 0} (r : Result (Option X) E) (P Q : Type 0) → (P → Q) → IfOk r (λ o. IfNone o P) → IfOk r (λ o. IfNone o Q)
none_mapped (Ok None) P Q f h = f h
none_mapped (Ok (Some x)) P Q f h = h
none_mapped (Err e) P Q f h = h

pub some_mapped : {X E : Type 0} (r : Result (Option X) E) (P Q : X → Type 0) → ((x : X) → P x → Q x) → IfOk r (λ o. IfSome o P) → IfOk r (λ o. IfSome o Q)
some_mapped (Ok None) P Q f h = h
some_mapped (Ok (Some x)) P Q f h = f x h
some_mapped (Err e) P Q f h = h

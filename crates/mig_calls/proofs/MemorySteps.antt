-- What steps change of files in memory.
use Rattle.mig_calls.proofs.Common.{Bool, Byte, Change, Changed, FileMoment, FilesChange, FilesLook, FilesWrite, FitsFile, HasBytes, IsLeftFilesBut}
use Rattle.mig_calls.proofs.Common.{IsWithin, PlaceBytes, FileMemory, FilesLeftSince, FilesMoment, FilesStep, List, Made, MayHold, MayLeaveFiles}
use Rattle.mig_calls.proofs.Common.{Named, NoByte, Option, Place, SameFilesBut, Synced, TouchesFile, Wrote, [], after_step, after_write, and-false}
use Rattle.mig_calls.proofs.Common.{and_from, ap, arith, cases_Bool, cases_lt, changed, cond, cond-false, cond-true, false, false≢true, files_after}
use Rattle.mig_calls.proofs.Common.{files_state, inl, inr, is_place, le-ltb, length, length-append, lt-ltb, nat_lt, not, reads_of, refl, slice_get}
use Rattle.mig_calls.proofs.Common.{slice_get-get_or, slice_get_past, slice_index, subst, sym, take-append-le, take_all, with_name, with_written}
use Rattle.mig_calls.proofs.Common.{written_over, ℕ, ◌&&◌, ◌++◌, ◌+◌, ◌-◌, ◌<◌, ◌∙◌, ◌∷◌, ◌≡◌, ◌≤◌, ◌⊎◌}
use Rattle.mig_calls.proofs.PlaceTests.{is_place-true, is_place-itself, is_place-other}
use Rattle.mig_calls.proofs.Disks.{after-push}

-- nothing was done
pub kept_change : (P : Place → ℕ → Type 0) (x y : FileMemory) → y.steps ≡ x.steps → x.refused ≤ y.refused → FilesChange P P (files_state x) (files_state y)
kept_change P x y same refused = subst (λ (l : List FilesStep). FilesChange P P (files_state x) (files_state (record y { steps = l }))) (sym same) (record {
  told = refl;
  bytes = λ p i out. refl;
  crash = λ files left. (files, left, λ p i out. refl);
  later = omega arith;
  refused = refused;
  since = λ t files le left. inl left;
  keeps = λ t files le left. left;
  images = λ was p. inl (λ i calm. refl);
})

pub kept_at : (P : Place → ℕ → Type 0) (x : FileMemory) (steps : List FilesStep) (faults refused unmade : ℕ) (claimed usable : Bool) → steps ≡ x.steps → x.refused ≤ refused
    → FilesChange P P (files_state x) (files_state (record { steps = steps; faults = faults; refused = refused; unmade = unmade; claimed = claimed; usable = usable }))
kept_at P x steps faults refused unmade claimed usable = kept_change P x (record { steps = steps; faults = faults; refused = refused; unmade = unmade; claimed = claimed; usable = usable })

-- a step was made
module _ (P : Place → ℕ → Type 0) (x y : FileMemory) (step : FilesStep) (told : SameFilesBut P (reads_of (files_after x.steps)) (reads_of (after_step (files_after x.steps) step)))
    (crash : (files : PlaceBytes) → MayLeaveFiles (after_step (files_after x.steps) step) files → IsLeftFilesBut P (files_state x) files) where
  crash_pushed : (files : PlaceBytes) → MayLeaveFiles (files_after (x.steps ++ step ∷ [])) files → IsLeftFilesBut P (files_state x) files
  crash_pushed = subst (λ (m : FilesMoment). (files : PlaceBytes) → MayLeaveFiles m files → IsLeftFilesBut P (files_state x) files) (sym (after-push x.steps step)) crash

  since : (t : ℕ) (files : PlaceBytes) (left : FilesLeftSince (x.steps ++ step ∷ []) t files) → (length x.steps < left.0) ⊎ (left.0 ≤ length x.steps)
      → FilesLeftSince x.steps t files ⊎ IsLeftFilesBut P (files_state x) files
  since t files left (inl past) = inr (crash_pushed files
      (subst (λ (l : List FilesStep). MayLeaveFiles (files_after l) files) (take_all left.0 (x.steps ++ step ∷ []) (omega (arith, length-append x.steps (step ∷ [])))) left.3))
  since t files left (inr within) = inl (left.0, left.1, within, subst (λ (l : List FilesStep). MayLeaveFiles (files_after l) files) (take-append-le left.0 x.steps (step ∷ []) within) left.3)

  pub stepped : y.steps ≡ x.steps ++ step ∷ [] → x.refused ≤ y.refused → FilesChange P P (files_state x) (files_state y)
  stepped pushed refused = subst (λ (l : List FilesStep). FilesChange P P (files_state x) (files_state (record y { steps = l }))) (sym pushed) (record {
    told = refl;
    bytes = subst (λ (m : FilesMoment). SameFilesBut P (reads_of (files_after x.steps)) (reads_of m)) (sym (after-push x.steps step)) told;
    crash = crash_pushed;
    later = omega (arith, length-append x.steps (step ∷ []));
    refused = refused;
    since = λ t files le left. since t files left (cases_lt (length x.steps) left.0);
    keeps = λ t files le left. (
      left.0,
      left.1,
      omega (arith, length-append x.steps (step ∷ []), left.2),
      subst (λ (l : List FilesStep). MayLeaveFiles (files_after l) files) (sym (take-append-le left.0 x.steps (step ∷ []) left.2)) left.3,
    );
    images = λ was p. inl (λ i calm. refl);
  })

-- one file changed
module _ (P : Place → ℕ → Type 0) (m : FilesMoment) (place : Place) (change : Change)
    (told : (i : ℕ) → ¬ P place i → ((changed change (m.files place)).now i).shown ≡ ((m.files place).now i).shown)
    (crash : (bytes : ℕ → ℕ) → MayHold (changed change (m.files place)) bytes → (before : ℕ → ℕ) × MayHold (m.files place) before × ((i : ℕ) → ¬ P place i → bytes i ≡ before i)) where
  change_told : SameFilesBut P (reads_of m) (reads_of (after_step m (Changed place change)))
  change_told other i out = elim (cases_Bool (is_place place other)) [
    | inl is ↦
        let e = is_place-true place other is in
        ap (λ (f : FileMoment). (f.now i).shown) (cond-true _ _ _ is)
        ∙ subst (λ (p : Place). ((changed change (m.files p)).now i).shown ≡ ((m.files p).now i).shown) e (told i (subst (λ (p : Place). ¬ P p i) (sym e) out))
    | inr not ↦ ap (λ (f : FileMoment). (f.now i).shown) (cond-false _ _ _ not)
  ]

  module _ (files : PlaceBytes) (left : MayLeaveFiles (after_step m (Changed place change)) files) where
    back_here : (before : ℕ → ℕ) × MayHold (m.files place) before × ((i : ℕ) → ¬ P place i → files place i ≡ before i)
    back_here = crash (files place) (subst (λ (f : FileMoment). MayHold f (files place)) (cond-true _ _ _ (is_place-itself place)) (left place))

    abbrev back : PlaceBytes
    back other = cond (is_place place other) back_here.0 (files other)

    back_left : MayLeaveFiles m back
    back_left other = elim (cases_Bool (is_place place other)) [
      | inl is ↦ subst (λ (bytes : ℕ → ℕ). MayHold (m.files other) bytes) (sym (cond-true _ _ _ is)) (subst (λ (p : Place). MayHold (m.files p) back_here.0) (is_place-true place other is) back_here.1)
      | inr not ↦ subst (λ (bytes : ℕ → ℕ). MayHold (m.files other) bytes) (sym (cond-false _ _ _ not)) (subst (λ (f : FileMoment). MayHold f (files other)) (cond-false _ _ _ not) (left other))
    ]

    back_others : SameFilesBut P back files
    back_others other i out = elim (cases_Bool (is_place place other)) [
      | inl is ↦
          let e = is_place-true place other is in
          subst (λ (p : Place). files p i ≡ back_here.0 i) e (back_here.2 i (subst (λ (p : Place). ¬ P p i) (sym e) out)) ∙ sym (ap (λ (bytes : ℕ → ℕ). bytes i) (cond-true _ _ _ is))
      | inr not ↦ sym (ap (λ (bytes : ℕ → ℕ). bytes i) (cond-false _ _ _ not))
    ]

    change_crash : (before : PlaceBytes) × MayLeaveFiles m before × SameFilesBut P before files
    change_crash = (back, back_left, back_others)

  pub changed_step : (x y : FileMemory) → files_after x.steps ≡ m → y.steps ≡ x.steps ++ Changed place change ∷ [] → x.refused ≤ y.refused → FilesChange P P (files_state x) (files_state y)
  changed_step x y is = stepped P x y (Changed place change)
      (subst (λ (n : FilesMoment). SameFilesBut P (reads_of n) (reads_of (after_step n (Changed place change)))) (sym is) change_told)
      (subst (λ (n : FilesMoment). (files : PlaceBytes) → MayLeaveFiles (after_step n (Changed place change)) files → (before : PlaceBytes) × MayLeaveFiles n before × SameFilesBut P before files) (sym is) change_crash)

-- The changes, one by one

module _ (x y : FileMemory) (place : Place) where
  abbrev m : FilesMoment
  m = files_after x.steps

  pub made_look : y.steps ≡ x.steps ++ Changed place Made ∷ [] → x.refused ≤ y.refused → FilesLook (files_state x) (files_state y)
  made_look = changed_step NoByte m place Made (λ i out. refl) (λ bytes fits. (bytes, one fits, λ i out. refl)) x y refl
    where
      one : {bytes : ℕ → ℕ} → MayHold (changed Made (m.files place)) bytes → MayHold (m.files place) bytes
      one (inl fits) = inl fits
      one (inr fits) = fits

  pub synced_look : y.steps ≡ x.steps ++ Changed place Synced ∷ [] → x.refused ≤ y.refused → FilesLook (files_state x) (files_state y)
  synced_look = changed_step NoByte m place Synced (λ i out. refl) (λ bytes fits. (bytes, one bytes fits, λ i out. refl)) x y refl
    where
      one : (bytes : ℕ → ℕ) → MayHold (changed Synced (m.files place)) bytes → MayHold (m.files place) bytes
      one bytes (inl fits) = inl (λ i calm. fits i refl)
      one bytes (inr fits) = inr fits

-- Values that were written
module _ (at : ℕ) (values : List ℕ) (file : ℕ → Byte) where
  -- whether one of them lies there
  abbrev pub covers : ℕ → Bool
  covers i = not (nat_lt i at) && nat_lt i (at + length values)

  pub written_out : (i : ℕ) → covers i ≡ false → with_written at values file i ≡ file i
  written_out i out = elim (cases_lt i at) [
    | inl lt ↦ cond-true _ _ _ (lt-ltb i at lt)
    | inr from ↦ elim (cases_lt i (at + length values)) [
      | inl below ↦ absurd (false≢true (sym out ∙ and_from (not (nat_lt i at)) (nat_lt i (at + length values)) (ap not (le-ltb i at from)) (lt-ltb i (at + length values) below)))
      | inr past ↦ cond-false _ _ _ (le-ltb i at from) ∙ ap (λ (value : Option ℕ). written_over value (file i)) (slice_get_past values (i - at) (omega arith))
    ]
  ]

  pub written_in : (i : ℕ) → i < length values → (with_written at values file (at + i)).shown ≡ slice_index values i
  written_in i lt =
      let e : (at + i) - at ≡ i = omega arith in
      ap (λ (b : Byte). b.shown) (cond-false _ _ _ (le-ltb (at + i) at (omega arith)))
      ∙ ap (λ (value : Option ℕ). (written_over value (file (at + i))).shown) (ap (slice_get values) e ∙ slice_get-get_or values i 0 lt)

  pub covers_within : (place : Place) (n i : ℕ) → length values ≤ n → ¬ IsWithin place at n place i → covers i ≡ false
  covers_within place n i few out = elim (cases_lt i at) [
    | inl lt ↦ ap (λ (b : Bool). not b && nat_lt i (at + length values)) (lt-ltb i at lt)
    | inr from ↦ elim (cases_lt i (at + length values)) [
      | inl below ↦ absurd (out (record { in_file = refl; from = from; below = omega (arith, few) }))
      | inr past ↦ ap (λ (b : Bool). not (nat_lt i at) && b) (le-ltb i (at + length values) past) ∙ and-false (not (nat_lt i at))
    ]
  ]

module _ (x y : FileMemory) (place : Place) (at n : ℕ) (values : List ℕ) (few : length values ≤ n) where
  abbrev file : FileMoment
  file = (files_after x.steps).files place

  abbrev settled_back : (ℕ → ℕ) → ℕ → ℕ
  settled_back bytes i = cond (covers at values file.now i) (file.now i).shown (bytes i)

  settled_fits : (bytes : ℕ → ℕ) → FitsFile (with_written at values file.now) bytes → FitsFile file.now (settled_back bytes)
  settled_fits bytes fits i calm = elim (cases_Bool (covers at values file.now i)) [
    | inl is ↦ cond-true _ _ _ is
    | inr not ↦
        let e = written_out at values file.now i not in
        cond-false _ _ _ not ∙ fits i (ap (λ (b : Byte). b.loose) e ∙ calm) ∙ ap (λ (b : Byte). b.shown) e
  ]

  wrote_back : (bytes : ℕ → ℕ) → MayHold (after_write at values file) bytes → (before : ℕ → ℕ) × MayHold file before × ((i : ℕ) → ¬ IsWithin place at n place i → bytes i ≡ before i)
  wrote_back bytes (inr fits) = (bytes, inr fits, λ i out. refl)
  wrote_back bytes (inl fits) = (settled_back bytes, inl (settled_fits bytes fits), λ i out. sym (cond-false _ _ _ (covers_within at values file.now place n i few out)))

  pub wrote_change : y.steps ≡ x.steps ++ Changed place (Wrote at values) ∷ [] → x.refused ≤ y.refused → FilesWrite place at n (files_state x) (files_state y)
  wrote_change = changed_step (IsWithin place at n) (files_after x.steps) place (Wrote at values)
      (λ i out. ap (λ (b : Byte). b.shown) (written_out at values file.now i (covers_within at values file.now place n i few out)))
      wrote_back x y refl

-- names that were brought to the device
pub named_look : (x y : FileMemory) → y.steps ≡ x.steps ++ Named ∷ [] → x.refused ≤ y.refused → FilesLook (files_state x) (files_state y)
named_look x y = stepped NoByte x y Named (λ p i out. refl)
    (λ files left. (files, (λ p. one ((files_after x.steps).files p) (files p) (left p)), λ p i out. refl))
  where
    one : (f : FileMoment) (bytes : ℕ → ℕ) → MayHold (with_name f) bytes → MayHold f bytes
    one f bytes (inl fits) = inl fits
    one f bytes (inr none) = absurd none

pub named_at : (x : FileMemory) (steps : List FilesStep) (faults refused unmade : ℕ) (claimed usable : Bool) → steps ≡ x.steps ++ Named ∷ [] → x.refused ≤ refused
    → FilesLook (files_state x) (files_state (record { steps = steps; faults = faults; refused = refused; unmade = unmade; claimed = claimed; usable = usable }))
named_at x steps faults refused unmade claimed usable = named_look x (record { steps = steps; faults = faults; refused = refused; unmade = unmade; claimed = claimed; usable = usable })

-- What is known of each file after a change of one
module _ (x y : FileMemory) (place : Place) (change : Change) (pushed : y.steps ≡ x.steps ++ Changed place change ∷ []) where
  pub moment_is : files_after y.steps ≡ after_step (files_after x.steps) (Changed place change)
  moment_is = ap files_after pushed ∙ after-push x.steps (Changed place change)

  pub file_here : (files_after y.steps).files place ≡ changed change ((files_after x.steps).files place)
  file_here = ap (λ (m : FilesMoment). m.files place) moment_is ∙ cond-true _ _ _ (is_place-itself place)

  pub file_other : (other : Place) → ¬ (other ≡ place) → (files_after y.steps).files other ≡ (files_after x.steps).files other
  file_other other out = ap (λ (m : FilesMoment). m.files other) moment_is ∙ cond-false _ _ _ (is_place-other place other (λ same. out (sym same)))

  pub touches : TouchesFile place (files_state x) (files_state y)
  touches = record { others = λ other out. ap (λ (f : FileMoment). f.flushed) (file_other other out) }

pub kept_touches : (place : Place) (x y : FileMemory) → y.steps ≡ x.steps → TouchesFile place (files_state x) (files_state y)
kept_touches place x y same = record { others = λ other out. ap (λ (l : List FilesStep). ((files_after l).files other).flushed) same }

-- a file has the values that were written
module _ (x y : FileMemory) (place : Place) (at : ℕ) (values : List ℕ) (pushed : y.steps ≡ x.steps ++ Changed place (Wrote at values) ∷ []) where
  has_own : HasBytes (reads_of (files_after y.steps) place) at (length values) values
  has_own i lt = sym (ap (λ (f : FileMoment). (f.now (at + i)).shown) (file_here x y place (Wrote at values) pushed) ∙ written_in at values ((files_after x.steps).files place).now i lt)

  pub wrote_has : (given : List ℕ) → values ≡ given → HasBytes (reads_of (files_after y.steps) place) at (length given) given
  wrote_has given same = subst (λ (l : List ℕ). HasBytes (reads_of (files_after y.steps) place) at (length l) l) same has_own

  pub wrote_given : (given : List ℕ) → values ≡ given → x.refused ≤ y.refused → FilesWrite place at (length given) (files_state x) (files_state y)
  wrote_given given same refused = wrote_change x y place at (length given) values (omega (arith, ap length same)) pushed refused

-- Files that are held in a list.
use Rattle.mig_calls.proofs.Common.{AreDifferent, Contains, Contains-get_or, FileMoment, List, MemFile, Place, SeenFile, Some, [], ap, arith}
use Rattle.mig_calls.proofs.Common.{cases_Bool, change_file, cond, cond-false, cond-true, drop, false, false≢true, get_or, get_or_from_slice_get, inl}
use Rattle.mig_calls.proofs.Common.{inr, is_place, length, length-map, look, map, map-set, file_moment, map-set_same, map_over_more, no_file, on_file}
use Rattle.mig_calls.proofs.Common.{place_of, refl, seen_file, seen_files, set, slice_get, slice_get_within, subst, suc, sym, take, true, zero, ℕ}
use Rattle.mig_calls.proofs.Common.{◌++◌, ◌+◌, ◌<◌, ◌∙◌, ◌∷◌, ◌≡◌}
use Rattle.std.proofs.lemmas.List.{get_or-map}
use Rattle.std.proofs.Math.ListN as listn
use Rattle.mig_calls.proofs.PlaceTests.{is_place-same, is_place-true, is_place-other}

-- the first file of a place
look-at : (seen : List SeenFile) (place : Place) (i : ℕ) (d : SeenFile) → i < length seen → ((j : ℕ) → j < i → is_place (get_or seen j d).place place ≡ false)
    → is_place (get_or seen i d).place place ≡ true → look seen place ≡ (get_or seen i d).file
look-at [] place i d lt none at = absurd (omega arith)
look-at (s ∷ seen) place zero d lt none at = cond-true _ _ _ at
look-at (s ∷ seen) place (suc i) d lt none at = cond-false _ _ _ (none 0 (omega arith)) ∙ look-at seen place i d (omega arith) (λ j less. none (suc j) (omega arith)) at

look-none : (seen : List SeenFile) (place : Place) → ((j : ℕ) (d : SeenFile) → j < length seen → is_place (get_or seen j d).place place ≡ false) → look seen place ≡ no_file
look-none [] place none = refl
look-none (s ∷ seen) place none = cond-false _ _ _ (none 0 s (omega arith)) ∙ look-none seen place (λ j d less. none (suc j) d (omega arith))

key_at : (seen : List SeenFile) (i : ℕ) (d : SeenFile) → i < length seen → get_or (map place_of seen) i d.place ≡ (get_or seen i d).place
key_at seen i d lt = get_or-map place_of seen i d d.place lt

-- a file that is found at a number among different ones
module _ (seen : List SeenFile) (place : Place) (i : ℕ) (found : slice_get (map place_of seen) i ≡ Some place) where
  found_within : i < length seen
  found_within = subst (λ n. i < n) (length-map seen place_of) (slice_get_within (map place_of seen) i place found)

  found_here : (d : SeenFile) → is_place (get_or seen i d).place place ≡ true
  found_here d = is_place-same _ _ (sym (key_at seen i d found_within) ∙ get_or_from_slice_get (map place_of seen) i place d.place found)

  found_first : AreDifferent (map place_of seen) → (j : ℕ) (d : SeenFile) → j < i → is_place (get_or seen j d).place place ≡ false
  found_first different j d less = is_place-other _ _ (λ same. different j i d.place less (slice_get_within (map place_of seen) i place found)
      (key_at seen j d (omega (arith, less, found_within)) ∙ same ∙ sym (get_or_from_slice_get (map place_of seen) i place d.place found)))

not_found : (seen : List SeenFile) (place : Place) → ¬ (Contains (map place_of seen) place) → (j : ℕ) (d : SeenFile) → j < length seen → is_place (get_or seen j d).place place ≡ false
not_found seen place none j d lt = is_place-other _ _ (λ same. none (subst (Contains (map place_of seen)) (key_at seen j d lt ∙ same)
    (Contains-get_or (map place_of seen) j d.place (subst (λ n. j < n) (sym (length-map seen place_of)) lt))))

-- another file at the first of a place
module _ (place : Place) (change : FileMoment → FileMoment) where
  look-set : (seen : List SeenFile) (i : ℕ) (d new : SeenFile) → i < length seen → ((j : ℕ) → j < i → is_place (get_or seen j d).place place ≡ false) → is_place (get_or seen i d).place place ≡ true
      → new.place ≡ (get_or seen i d).place → new.file ≡ change (get_or seen i d).file → (other : Place) → look (set seen i new) other ≡ change_file place change (look seen) other
  look-set [] i d new lt none at named file other = absurd (omega arith)
  look-set (s ∷ seen) zero d new lt none at named file other =
      let e : s.place ≡ place = is_place-true s.place place at in
      elim (cases_Bool (is_place place other)) [
        | inl is ↦ cond-true _ _ _ (ap (λ (p : Place). is_place p other) (named ∙ e) ∙ is) ∙ file
            ∙ sym (cond-true _ _ _ is ∙ ap change (cond-true _ _ _ (ap (λ (p : Place). is_place p other) e ∙ is)))
        | inr not ↦ cond-false _ _ _ (ap (λ (p : Place). is_place p other) (named ∙ e) ∙ not)
            ∙ sym (cond-false _ _ _ not ∙ cond-false _ _ _ (ap (λ (p : Place). is_place p other) e ∙ not))
      ]
  look-set (s ∷ seen) (suc i) d new lt none at named file other = elim (cases_Bool (is_place s.place other)) [
    | inl is ↦ cond-true _ _ _ is ∙ sym (cond-false _ _ _ (apart is) ∙ cond-true _ _ _ is)
    | inr not ↦ cond-false _ _ _ not ∙ look-set seen i d new (omega arith) (λ j less. none (suc j) (omega arith)) at named file other
        ∙ sym (ap (λ (f : FileMoment). cond (is_place place other) (change f) f) (cond-false _ _ _ not))
  ]
    where
      apart : is_place s.place other ≡ true → is_place place other ≡ false
      apart is = is_place-other place other (λ same. false≢true (sym (none 0 (omega arith)) ∙ is_place-same s.place place (is_place-true s.place other is ∙ sym same)))

-- what a look-up among different files says
module _ (seen : List SeenFile) (place : Place) where
  pub look-absent : ¬ (Contains (map place_of seen) place) → look seen place ≡ no_file
  look-absent none = look-none seen place (not_found seen place none)

  module _ (i : ℕ) (found : slice_get (map place_of seen) i ≡ Some place) (different : AreDifferent (map place_of seen)) where
    pub look-found : (d : SeenFile) → look seen place ≡ (get_or seen i d).file
    look-found d = look-at seen place i d (found_within seen place i found) (λ j less. found_first seen place i found different j d less) (found_here seen place i found d)

    pub look-change : (change : FileMoment → FileMoment) (new d : SeenFile) → new.place ≡ (get_or seen i d).place → new.file ≡ change (get_or seen i d).file
        → (other : Place) → look (set seen i new) other ≡ change_file place change (look seen) other
    look-change change new d named file other =
        look-set place change seen i d new (found_within seen place i found) (λ j less. found_first seen place i found different j d less) (found_here seen place i found d) named file other

-- another file keeps the places
pub places-map : (change : FileMoment → FileMoment) (seen : List SeenFile) → map place_of (map (on_file change) seen) ≡ map place_of seen
places-map change [] = refl
places-map change (s ∷ seen) = ap (λ (l : List Place). s.place ∷ l) (places-map change seen)

-- where all files change
pub look-map : (change : FileMoment → FileMoment) → change no_file ≡ no_file → (seen : List SeenFile) (place : Place) → look (map (on_file change) seen) place ≡ change (look seen place)
look-map change none [] place = sym none
look-map change none (s ∷ seen) place = elim (cases_Bool (is_place s.place place)) [
  | inl is ↦ cond-true _ _ _ is ∙ sym (ap change (cond-true _ _ _ is))
  | inr not ↦ cond-false _ _ _ not ∙ look-map change none seen place ∙ sym (ap change (cond-false _ _ _ not))
]

-- what is kept of one file changes
module _ (items : List MemFile) (i : ℕ) (d new : MemFile) (at : d ≡ get_or items i d) (named : new.place ≡ d.place) where
  seen_at : seen_file d ≡ get_or (seen_files items) i (seen_file d)
  seen_at = ap seen_file at ∙ sym (listn.get_or-map seen_file items i d)

  seen_set : seen_files (set items i new) ≡ set (seen_files items) i (seen_file new)
  seen_set = map-set seen_file items i new

  pub places_kept : map place_of (seen_files (set items i new)) ≡ map place_of (seen_files items)
  places_kept = ap (map place_of) seen_set ∙ map-set_same place_of (seen_files items) i (seen_file new) (seen_file d) (named ∙ ap place_of seen_at)

  -- in a loop over all files
  pub seen_more : (change : FileMoment → FileMoment) (xs : List SeenFile) → i < length xs → seen_files items ≡ map (on_file change) (take i xs) ++ drop i xs → file_moment new ≡ change (file_moment d)
      → seen_files (set items i new) ≡ map (on_file change) (take (i + 1) xs) ++ drop (i + 1) xs
  seen_more change xs lt before is =
      let e : seen_file new ≡ on_file change (seen_file d) = λ j. record { place = named j; file = is j } in
      seen_set ∙ ap (set (seen_files items) i) e ∙ map_over_more (on_file change) xs (seen_files items) i (seen_file d) lt before seen_at

  -- one that was found
  pub seen_change : (place : Place) → slice_get (map place_of (seen_files items)) i ≡ Some place → AreDifferent (map place_of (seen_files items))
      → (change : FileMoment → FileMoment) → file_moment new ≡ change (file_moment d)
      → (other : Place) → look (seen_files (set items i new)) other ≡ change_file place change (look (seen_files items)) other
  seen_change place found different change is other =
      ap (λ (l : List SeenFile). look l other) seen_set
      ∙ look-change (seen_files items) place i found different change (seen_file new) (seen_file d) (named ∙ ap place_of seen_at) (is ∙ ap (λ (s : SeenFile). change s.file) seen_at) other

  pub seen_same : file_moment new ≡ file_moment d → seen_files (set items i new) ≡ seen_files items
  seen_same is =
      let e : seen_file new ≡ seen_file d = λ j. record { place = named j; file = is j } in
      map-set_same seen_file items i new d (e ∙ ap seen_file at)

-- a file that isn't there goes last
pub look-push : (seen : List SeenFile) (place other : Place) → look (seen ++ record { place = place; file = no_file } ∷ []) other ≡ look seen other
look-push [] place other = elim (cases_Bool (is_place place other)) [
  | inl is ↦ cond-true _ _ _ is
  | inr not ↦ cond-false _ _ _ not
]
look-push (s ∷ seen) place other = ap (λ (f : FileMoment). cond (is_place s.place other) s.file f) (look-push seen place other)

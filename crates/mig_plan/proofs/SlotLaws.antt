-- Rows of slots: what one spot more takes, and how long the rows are.
use Rattle.mig_plan.proofs.Common.{All, All-append, All-map, AreCounts, AreTaken, AreTakenSlots, AreWidths, Bool, Contains, Contains-append_left}
use Rattle.mig_plan.proofs.Common.{Contains-push, Contains-push_cases, DiskId, Global, InputLists, IsFirstFree, IsFreeFrom, IsInput, List, Spot, Vec}
use Rattle.mig_plan.proofs.Common.{[], ap, arith, cases_eq, cases_lt, count_by-filter-le, count_by-le-length, occurrences, eqb, false≢true}
use Rattle.mig_plan.proofs.Common.{fill_by_all, get_or, get_or-set_other, get_or-set_same, get_or_default, get_or_past, incoming, inl, inr}
use Rattle.mig_plan.proofs.Common.{is_relocated, is_taken, length, length-append, length-map, length-set, map, one, range_with_len, refl, row_at, set}
use Rattle.mig_plan.proofs.Common.{spot, spot_by, spot_disk, subst, sum_by-append, sum_by-map, sym, take, take_more, target, true, ℕ, ◌++◌, ◌+◌, ◌<◌}
use Rattle.mig_plan.proofs.Common.{◌∙◌, ◌∷◌, ◌≡◌, ◌≢◌, ◌≤◌}

-- a row after one slot is taken
same_slot : (row : List Bool) (slot s : ℕ) → s ≡ slot → is_taken (set row slot true) s ≡ true
same_slot row slot s e = elim (cases_lt slot (length row)) [
  | inl lt ↦ ap (is_taken (set row slot true)) e ∙ get_or-set_same row slot true true lt
  | inr ge ↦ get_or_past (set row slot true) s true (omega (arith, e, ge, length-set row slot true))
]

other_slot : (row : List Bool) (slot s : ℕ) → s ≢ slot → is_taken (set row slot true) s ≡ is_taken row s
other_slot row slot s ne = get_or-set_other row slot s true true ne

module _ (widths : List ℕ) (spots : List Spot) (i : ℕ) (d : Spot) (rows : List (Vec Bool Global)) (old new : Vec Bool Global) (h : i < length spots) (there : (get_or spots i d).disk.0 < length rows) (was : old ≡ get_or rows (get_or spots i d).disk.0 old) (is : new.items ≡ set old.items (get_or spots i d).slot true) (a : AreTaken widths (take i spots) rows) where
  abbrev x : Spot
  x = get_or spots i d

  abbrev v : ℕ
  v = (get_or spots i d).disk.0

  -- the row of the spot's disk, and the others
  here : (w : ℕ) (e : Vec Bool Global) → w ≡ (get_or spots i d).disk.0 → row_at (set rows (get_or spots i d).disk.0 new) w e ≡ set (row_at rows w e) (get_or spots i d).slot true
  here w e same =
      ap (λ (n : ℕ). row_at (set rows (get_or spots i d).disk.0 new) n e) same ∙ ap (λ (r : Vec Bool Global). r.items) (get_or-set_same rows (get_or spots i d).disk.0 new e there)
      ∙ is ∙ ap (λ (r : Vec Bool Global). set r.items (get_or spots i d).slot true) (was ∙ get_or_default rows (get_or spots i d).disk.0 old e there)
      ∙ ap (λ (n : ℕ). set (row_at rows n e) (get_or spots i d).slot true) (sym same)

  other : (w : ℕ) (e : Vec Bool Global) → w ≢ (get_or spots i d).disk.0 → row_at (set rows (get_or spots i d).disk.0 new) w e ≡ row_at rows w e
  other w e ne = ap (λ (r : Vec Bool Global). r.items) (get_or-set_other rows (get_or spots i d).disk.0 w new e ne)

  list : take (i + 1) spots ≡ take i spots ++ get_or spots i d ∷ []
  list = take_more spots i d h

  left : (s : Spot) → Contains (take i spots) s → Contains (take (i + 1) spots) s
  left s has = subst (λ (xs : List Spot). Contains xs s) (sym list) (Contains-append_left (take i spots) (get_or spots i d ∷ []) s has)

  new_width : (w : ℕ) (e : Vec Bool Global) → w < length (set rows (get_or spots i d).disk.0 new) → length (row_at (set rows (get_or spots i d).disk.0 new) w e) ≡ get_or widths w 0
  new_width w e l =
      let old_l : w < length rows = omega (arith, l, length-set rows (get_or spots i d).disk.0 new) in
      elim (cases_eq w (get_or spots i d).disk.0) [
        | inl same ↦ ap (λ (r : List Bool). length r) (here w e same) ∙ length-set (row_at rows w e) (get_or spots i d).slot true ∙ a.width w e old_l
        | inr ne ↦ ap (λ (r : List Bool). length r) (other w e ne) ∙ a.width w e old_l
      ]

  new_known : (w s : ℕ) (e : Vec Bool Global) → w < length (set rows (get_or spots i d).disk.0 new) → s < get_or widths w 0 → is_taken (row_at (set rows (get_or spots i d).disk.0 new) w e) s ≡ true → Contains (take (i + 1) spots) (spot w s)
  new_known w s e l m t =
      let old_l : w < length rows = omega (arith, l, length-set rows (get_or spots i d).disk.0 new) in
      elim (cases_eq w (get_or spots i d).disk.0) [
        | inl same ↦ elim (cases_eq s (get_or spots i d).slot) [
          | inl at ↦ subst (λ (xs : List Spot). Contains xs (spot w s)) (sym list) (subst (λ (y : Spot). Contains (take i spots ++ get_or spots i d ∷ []) y) (spot_by (get_or spots i d) (spot w s) (sym same) (sym at)) (Contains-push (take i spots) (get_or spots i d)))
          | inr off ↦ left (spot w s) (a.known w s e old_l m (sym (other_slot (row_at rows w e) (get_or spots i d).slot s off) ∙ ap (λ (r : List Bool). is_taken r s) (sym (here w e same)) ∙ t))
        ]
        | inr ne ↦ left (spot w s) (a.known w s e old_l m (ap (λ (r : List Bool). is_taken r s) (sym (other w e ne)) ∙ t))
      ]

  new_all : (w s : ℕ) (e : Vec Bool Global) → w < length (set rows (get_or spots i d).disk.0 new) → Contains (take (i + 1) spots) (spot w s) → is_taken (row_at (set rows (get_or spots i d).disk.0 new) w e) s ≡ true
  new_all w s e l has =
      let old_l : w < length rows = omega (arith, l, length-set rows (get_or spots i d).disk.0 new) in
      elim (Contains-push_cases (take i spots) (get_or spots i d) (spot w s) (subst (λ (xs : List Spot). Contains xs (spot w s)) list has)) [
        | inl before ↦
            let t = a.all w s e old_l before in
            elim (cases_eq w (get_or spots i d).disk.0) [
              | inl same ↦ ap (λ (r : List Bool). is_taken r s) (here w e same) ∙ elim (cases_eq s (get_or spots i d).slot) [
                | inl at ↦ same_slot (row_at rows w e) (get_or spots i d).slot s at
                | inr off ↦ other_slot (row_at rows w e) (get_or spots i d).slot s off ∙ t
              ]
              | inr ne ↦ ap (λ (r : List Bool). is_taken r s) (other w e ne) ∙ t
            ]
        | inr eq ↦ ap (λ (r : List Bool). is_taken r s) (here w e (ap (λ (y : Spot). y.disk.0) (sym eq))) ∙ same_slot (row_at rows w e) (get_or spots i d).slot s (ap (λ (y : Spot). y.slot) (sym eq))
      ]

  pub AreTaken-more : AreTaken widths (take (i + 1) spots) (set rows (get_or spots i d).disk.0 new)
  AreTaken-more = record { len = length-set rows (get_or spots i d).disk.0 new ∙ a.len; width = new_width; known = new_known; all = new_all }

-- how long the rows are

count_next : (input : InputLists) (v : ℕ) → IsInput input → incoming input v ≤ occurrences v input.next
count_next input v is =
    let goes : ℕ → Bool = λ item. eqb (target input item) v in
    let items = range_with_len 0 (length input.items) in
    let e = fill_by_all (λ item. get_or input.next item (record { 0 = 0 })) input.next (length input.items) (record { 0 = 0 }) is.next_len (λ k h. refl) in
    omega (arith, count_by-filter-le goes (is_relocated input) items, sum_by-map (λ (d : DiskId). one (eqb d.0 v)) (λ item. get_or input.next item (record { 0 = 0 })) items, ap (λ (xs : List DiskId). occurrences v xs) e)

pub widths_are : (input : InputLists) (n : ℕ) (stops : List DiskId) (widths : List ℕ) → IsInput input → n ≡ length input.disks → stops ≡ map (λ (s : Spot). s.disk) input.spots ++ input.next → AreCounts n stops widths → AreWidths input widths
widths_are input n stops widths is disks list a =
    let on : List DiskId = map (λ (s : Spot). s.disk) input.spots in
    record {
      len = a.len ∙ disks;
      enough = λ v h. omega (arith, a.counted v (omega (arith, h, disks)), ap (λ (xs : List DiskId). occurrences v xs) list, sum_by-append (λ (d : DiskId). one (eqb d.0 v)) on input.next, sum_by-map (λ (d : DiskId). one (eqb d.0 v)) (λ (s : Spot). s.disk) input.spots, count_next input v is);
      few = λ v h. omega (arith, a.counted v (omega (arith, h, disks)), count_by-le-length (λ (d : DiskId). eqb d.0 v) stops, ap (λ (xs : List DiskId). length xs) list, length-append on input.next, length-map input.spots (λ (s : Spot). s.disk), is.spots_len, is.next_len, is.few_items);
    }

-- each disk of the list is there
pub stops_there : (input : InputLists) (n : ℕ) (stops : List DiskId) → IsInput input → n ≡ length input.disks → stops ≡ map (λ (s : Spot). s.disk) input.spots ++ input.next → All (λ (d : DiskId). d.0 < n) stops
stops_there input n stops is disks list = subst (λ (xs : List DiskId). All (λ (d : DiskId). d.0 < n) xs) (sym list) (All-append (λ (d : DiskId). d.0 < n) (map (λ (s : Spot). s.disk) input.spots) input.next
    (All-map (λ (d : DiskId). d.0 < n) (λ (s : Spot). s.disk) input.spots (λ k d h. omega (arith, spot_disk input.disks (get_or input.spots k d) (is.on_disks k d h), disks)))
    (λ k d h. omega (arith, is.next_disks k d h, disks)))

-- the first slot of a disk's row that isn't taken is a spot that no item has
pub free_from : (input : InputLists) (rows : List (Vec Bool Global)) (v from slot : ℕ) (d : Vec Bool Global) → AreTakenSlots input rows → v < length rows → IsFirstFree (row_at rows v d) from slot → IsFreeFrom input.spots v from slot
free_from input rows v from slot d a h f = record {
  from_on = f.from_on;
  free = λ has. false≢true (sym f.free ∙ a.all v slot d h has);
  lowest = λ s l m. a.known v s d h (omega (arith, m, f.there)) (f.lower s l m);
}

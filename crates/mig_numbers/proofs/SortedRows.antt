-- Rows by their rounds, and that they fit.
use Rattle.mig_numbers.proofs.Common.{All, All-filter, All-map, AreRowsSound, AreSorted, AreSound, Bool, DiskNumbers, Global, InputLists, IsRowSound}
use Rattle.mig_numbers.proofs.Common.{ItemNumbers, List, MAX_ROUNDS, MAX_SHIFTS, PlanFits, Shift, ShiftFits, ShiftNumbers, Vec, [], ap, append-nil}
use Rattle.mig_numbers.proofs.Common.{arith, cases_eq, cases_lt, cond, count_by-le-length, disk_in, false, fill_by_all, filter, filter-append, get_or}
use Rattle.mig_numbers.proofs.Common.{get_or-set_other, get_or-set_same, get_or_default, inl, input_of, inr, is_in_round, length, length-filter}
use Rattle.mig_numbers.proofs.Common.{length-map, length-map-range_with_len, length-set, made_item, map, map-append, nat_tests, no_item, no_numbers}
use Rattle.mig_numbers.proofs.Common.{plan_by, range_with_len, round_shifts, set, shift_by, suc, sym, take, take_all, true, zero, ℕ, ⊎_elim, ◌++◌}
use Rattle.mig_numbers.proofs.Common.{◌+◌, ◌-◌, ◌<◌, ◌==◌, ◌∙◌, ◌∷◌, ◌≡◌, ◌≤◌, ◌⊎◌}
use Rattle.mig_numbers.proofs.Lists.{next_taken}
use Rattle.mig_numbers.specs.Judged.{shifts_in}

-- what a row that isn't there would be
abbrev pub no_row : ShiftNumbers
no_row = record { item = 0; to_disk = 0; to_slot = 0; round = 0 }

module _ (items : List ItemNumbers) (rows : List ShiftNumbers) (n : ℕ) (row : ShiftNumbers) (lt : n < length rows) (here : row ≡ get_or rows n row) where
  more : (k : ℕ) → shifts_in items (take (n + 1) rows) k ≡ shifts_in items (take n rows) k ++ map (shift_by items) (cond (row.round == k + 1) (row ∷ []) [])
  more k =
      let p = is_in_round (k + 1) in
      ap (λ (rs : List ShiftNumbers). map (shift_by items) (filter p rs)) (next_taken rows n row lt here)
      ∙ ap (map (shift_by items)) (filter-append p (take n rows) (row ∷ []))
      ∙ map-append (shift_by items) (filter p (take n rows)) (cond (row.round == k + 1) (row ∷ []) [])

  same : (k : ℕ) → (row.round == k + 1) ≡ true → shifts_in items (take (n + 1) rows) k ≡ shifts_in items (take n rows) k ++ shift_by items row ∷ []
  same k e = more k ∙ ap (λ b. shifts_in items (take n rows) k ++ map (shift_by items) (cond b (row ∷ []) [])) e

  other : (k : ℕ) → (row.round == k + 1) ≡ false → shifts_in items (take (n + 1) rows) k ≡ shifts_in items (take n rows) k
  other k e = more k ∙ ap (λ b. shifts_in items (take n rows) k ++ map (shift_by items) (cond b (row ∷ []) [])) e ∙ append-nil (shifts_in items (take n rows) k)

  -- one more row is put into its round
  pub sorted_next : (rounds at : ℕ) (made : List (Vec Shift Global)) (old new : Vec Shift Global) → row.round ≡ at + 1 → at < rounds → old ≡ get_or made at old
      → new.items ≡ old.items ++ shift_by items row ∷ [] → AreSorted items rows rounds n made → AreSorted items rows rounds (n + 1) (set made at new)
  sorted_next rounds at made old new round there was is sorted = record {
    len = length-set made at new ∙ sorted.len;
    each = λ k d h. elim (cases_eq k at) [
      | inl e ↦
          let yes : (row.round == at + 1) ≡ true = grind (arith, nat_tests) in
          ap (λ j. (get_or (set made at new) j d).items) e ∙ ap (λ (v : Vec Shift Global). v.items) (get_or-set_same made at new d (omega (arith, there, sorted.len)))
          ∙ is ∙ ap (λ (xs : List Shift). xs ++ shift_by items row ∷ []) (ap (λ (v : Vec Shift Global). v.items) was ∙ sorted.each at old there)
          ∙ sym (same at yes) ∙ ap (λ j. shifts_in items (take (n + 1) rows) j) (sym e)
      | inr ne ↦
          let no : (row.round == k + 1) ≡ false = grind (arith, nat_tests) in
          ap (λ (v : Vec Shift Global). v.items) (get_or-set_other made at k new d ne) ∙ sorted.each k d h ∙ sym (other k no)
    ];
  }

-- the rounds that all rows are sorted into are the plan's
pub sorted_is : (items : List ItemNumbers) (rows : List ShiftNumbers) (rounds : ℕ) (made : List (Vec Shift Global)) → AreSorted items rows rounds (length rows) made → map round_shifts made ≡ plan_by items rows rounds
sorted_is items rows rounds made sorted =
    fill_by_all (shifts_in items rows) (map round_shifts made) rounds [] (length-map made round_shifts ∙ sorted.len) (λ k h. at made k (omega (arith, h, sorted.len))
    (λ d. sorted.each k d h ∙ ap (λ (rs : List ShiftNumbers). shifts_in items rs k) (take_all (length rows) rows (omega arith))))
  where
    at : (made : List (Vec Shift Global)) (k : ℕ) {r : List Shift} → k < length made → ((d : Vec Shift Global) → (get_or made k d).items ≡ r) → get_or (map round_shifts made) k [] ≡ r
    at [] k lt h = absurd (omega (arith, lt))
    at (v ∷ made) zero lt h = h v
    at (v ∷ made) (suc k) lt h = at made k (omega (arith, lt)) h

-- a plan of sound rows fits the input
module _ (split : Bool) (disks : List DiskNumbers) (items : List ItemNumbers) (rows : List ShiftNumbers) (rounds : ℕ) (few : rounds ≤ MAX_ROUNDS)
    (sound : AreSound split disks items) (rows_sound : AreRowsSound disks items rounds rows (length rows)) where
  abbrev pub input : InputLists
  input = input_of split disks items

  row_fits : (row : ShiftNumbers) (k : ℕ) → IsRowSound disks items rounds k row → ShiftFits input (shift_by items row)
  row_fits row k s =
      let item = sound.items_sound row.item no_item s.item in
      let there : length input.disks ≡ length disks = length-map-range_with_len (disk_in split disks) 0 (length disks) in
      let disk = sound.disks_sound (get_or items row.item no_item).disk no_numbers item.on_disk in
      record {
        item = omega (arith, s.item, length-map-range_with_len made_item 0 (length items));
        from_disk = omega (arith, item.on_disk, there);
        to_disk = omega (arith, s.disk, there);
        from_slot = omega (arith, item.in_slots, disk.2);
        to_slot = s.slot;
      }

  few_rows : length rows ≤ MAX_SHIFTS
  few_rows = elim (cases_lt MAX_SHIFTS (length rows)) [
    | inl less ↦ absurd (let s = rows_sound MAX_SHIFTS no_row less in omega (arith, s.few))
    | inr most ↦ omega (arith, most)
  ]

  pub plan_fits : PlanFits input (plan_by items rows rounds)
  plan_fits = record {
    few_rounds = omega (arith, few, length-map-range_with_len (shifts_in items rows) 0 rounds);
    few_shifts = All-map (λ (r : List Shift). length r ≤ MAX_SHIFTS) (shifts_in items rows) (range_with_len 0 rounds) (λ i d h.
        let k = get_or (range_with_len 0 rounds) i d in
        omega (arith, few_rows, length-map (filter (is_in_round (k + 1)) rows) (shift_by items), length-filter (is_in_round (k + 1)) rows, count_by-le-length (is_in_round (k + 1)) rows));
    shifts = All-map (All (ShiftFits input)) (shifts_in items rows) (range_with_len 0 rounds) (λ i d h.
        let k = get_or (range_with_len 0 rounds) i d in
        All-map (ShiftFits input) (shift_by items) (filter (is_in_round (k + 1)) rows)
        (All-filter (is_in_round (k + 1)) (λ row. ShiftFits input (shift_by items row)) rows (λ j e lt. row_fits (get_or rows j e) j (rows_sound j e lt))));
  }

-- numbers that are in order up to a place are in order with the next one, where that is above the one before it
pub increasing_next : (set : List ℕ) (k : ℕ) → k < length set → ((i j d : ℕ) → i < j → j < k → get_or set i d < get_or set j d) → ((k ≡ 0) ⊎ (get_or set (k - 1) 0 < get_or set k 0))
    → (i j d : ℕ) → i < j → j < k + 1 → get_or set i d < get_or set j d
increasing_next set k lt before above i j d less within = elim (cases_lt j k) [
  | inl old ↦ before i j d less old
  | inr more ↦
      let same : k ≡ j = omega (arith, within, more) in
      ⊎_elim
      (λ none. absurd (omega (arith, none, same, less)))
      (λ (up : get_or set (k - 1) 0 < get_or set k 0).
      let at_k : get_or set k 0 ≡ get_or set j d = get_or_default set k 0 d lt ∙ ap (λ n. get_or set n d) same in
      elim (cases_lt i (k - 1)) [
        | inl far ↦
            let step = before i (k - 1) 0 far (omega (arith, less, same)) in
            omega (arith, step, up, at_k, get_or_default set i 0 d (omega (arith, less, same, lt)))
        | inr near ↦
            let here : k - 1 ≡ i = omega (arith, near, less, same) in
            omega (arith, up, at_k, ap (λ n. get_or set n 0) here, get_or_default set i 0 d (omega (arith, less, same, lt)))
      ]) above
]

-- How many rows there are, of each item and of all.
use Rattle.mig_numbers.proofs.Common.{Bool, Bound, Cert, DiskId, DiskNumbers, IsPlanOf, ItemNumbers, List, Nothing, Shift, ShiftNumbers, Spot, []}
use Rattle.mig_numbers.proofs.Common.{add-one, ap, arith, bound_value, class_number, cond, count_by, false, few_shifts, found_by, found_of, get_or}
use Rattle.mig_numbers.proofs.Common.{get_or-map, input_of, is_of, is_relocated, is_row_of, length, length-append, length-map}
use Rattle.mig_numbers.proofs.Common.{length-map-range_with_len, made_item, map, next_of, no_item, no_spot, not, plan_rows, refl, round_at, row_of}
use Rattle.mig_numbers.proofs.Common.{rows_for, rows_upto, shift_count, spot_of, subst, suc, sum_by, sum_by-append, sum_by-cons, sum_by-map}
use Rattle.mig_numbers.proofs.Common.{sum_by_more, take, take_all, true, zero, ℕ, ◌+◌, ◌<◌, ◌==◌, ◌∙◌, ◌∷◌, ◌≡◌, ◌≤◌}
use Rattle.mig_numbers.proofs.Rows.{rows_next}
use Rattle.mig_text.proofs.PlanLengths.{shifts_in}

-- what the numbers of a certificate tell
pub found_is : (cert : Cert) → ((found_of cert).rounds ≡ cert.rounds) × ((found_of cert).value ≡ bound_value cert.bound)
found_is cert = by cert.bound
  where
    by : (bound : Bound) → ((found_by cert.rounds cert.quotient (class_number cert.class) bound).rounds ≡ cert.rounds)
        × ((found_by cert.rounds cert.quotient (class_number cert.class) bound).value ≡ bound_value bound)
    by Nothing = (refl, refl)
    by _ = (refl, refl)

rows_count : (plan : List (List Shift)) (i n : ℕ) → n ≤ length plan → count_by (is_row_of i) (rows_upto plan n) ≡ shift_count (take n plan) i
rows_count plan i zero h = refl
rows_count plan i (suc k) h =
    let more = map (row_of (k + 1)) (round_at plan (suc k)) in
    let lt : k < length plan = omega arith in
    let step : count_by (is_row_of i) (rows_upto plan (k + 1)) ≡ shift_count (take (k + 1) plan) i = omega (
      arith,
      ap (λ (rs : List ShiftNumbers). count_by (is_row_of i) rs) (rows_next plan k),
      sum_by-append (λ (r : ShiftNumbers). cond (is_row_of i r) 1 0) (rows_upto plan k) more,
      sum_by-map (λ (r : ShiftNumbers). cond (is_row_of i r) 1 0) (row_of (k + 1)) (round_at plan (suc k)),
      sum_by_more (λ (round : List Shift). count_by (is_of i) round) plan k [] lt,
      rows_count plan i k (omega arith),
    ) in
    subst (λ n. count_by (is_row_of i) (rows_upto plan n) ≡ shift_count (take n plan) i) (add-one k) step

rows_len : (plan : List (List Shift)) (n : ℕ) → n ≤ length plan → length (rows_upto plan n) ≡ sum_by (λ (round : List Shift). length round) (take n plan)
rows_len plan zero h = refl
rows_len plan (suc k) h =
    let more = map (row_of (k + 1)) (round_at plan (suc k)) in
    let lt : k < length plan = omega arith in
    let step : length (rows_upto plan (k + 1)) ≡ sum_by (λ (round : List Shift). length round) (take (k + 1) plan) = omega (
      arith,
      ap (λ (rs : List ShiftNumbers). length rs) (rows_next plan k),
      length-append (rows_upto plan k) more,
      length-map (round_at plan (suc k)) (row_of (k + 1)),
      sum_by_more (λ (round : List Shift). length round) plan k [] lt,
      rows_len plan k (omega arith),
    ) in
    subst (λ n. length (rows_upto plan n) ≡ sum_by (λ (round : List Shift). length round) (take n plan)) (add-one k) step

-- of all rounds
pub all_count : (plan : List (List Shift)) (i : ℕ) → count_by (is_row_of i) (plan_rows plan) ≡ shift_count plan i
all_count plan i =
    rows_count plan i (length plan) (omega arith)
    ∙ ap (λ (p : List (List Shift)). shift_count p i) (take_all (length plan) plan (omega arith))

pub all_len : (plan : List (List Shift)) → length (plan_rows plan) ≡ sum_by (λ (round : List Shift). length round) plan
all_len plan =
    rows_len plan (length plan) (omega arith)
    ∙ ap (λ (p : List (List Shift)). sum_by (λ (round : List Shift). length round) p) (take_all (length plan) plan (omega arith))

in_all : (plan : List (List Shift)) → sum_by (λ (round : List Shift). length round) plan ≡ shifts_in plan
in_all [] = refl
in_all (round ∷ plan) = omega (arith, sum_by-cons (λ (r : List Shift). length r) round plan, in_all plan)

abbrev where_not : Bool → ℕ
where_not b = cond (not b) 1 0

abbrev unless : Bool → ℕ
unless b = cond b 0 1

turned : (b : Bool) → where_not b ≡ unless b
turned true = refl
turned false = refl

-- an item is relocated where its numbers say so
pub relocated_by : (split : Bool) (disks : List DiskNumbers) (items : List ItemNumbers) (i : ℕ) → i < length items
    → cond (is_relocated (input_of split disks items) i) 1 0 ≡ rows_for (get_or items i no_item)
relocated_by split disks items i lt =
    let item = get_or items i no_item in
    let from : (get_or (map spot_of items) i no_spot).disk.0 ≡ item.disk =
    ap (λ (s : Spot). s.disk.0) (get_or-map spot_of items i no_item no_spot lt) in
    let to : (get_or (map next_of items) i (record { 0 = 0 })).0 ≡ item.next_disk =
    ap (λ (v : DiskId). v.0) (get_or-map next_of items i no_item (record { 0 = 0 }) lt) in
    ap (λ a. where_not (a == (get_or (map next_of items) i (record { 0 = 0 })).0)) from
    ∙ ap (λ b. where_not (item.disk == b)) to
    ∙ turned (item.disk == item.next_disk)

module _ (split : Bool) (disks : List DiskNumbers) (items : List ItemNumbers) (plan : List (List Shift)) (made : IsPlanOf (input_of split disks items) plan) where
  pub once_shift : (i : ℕ) → i < length items → shift_count plan i ≡ rows_for (get_or items i no_item)
  once_shift i lt = made.once i (omega (arith, lt, length-map-range_with_len made_item 0 (length items))) ∙ relocated_by split disks items i lt

  pub once_rows : (i : ℕ) → i < length items → count_by (is_row_of i) (plan_rows plan) ≡ rows_for (get_or items i no_item)
  once_rows i lt = all_count plan i ∙ once_shift i lt

  pub few_rows : length (plan_rows plan) ≤ length items
  few_rows =
      let few = few_shifts (input_of split disks items) plan made.once made.fits.shifts in
      omega (arith, few, in_all plan, length-map-range_with_len made_item 0 (length items), all_len plan)

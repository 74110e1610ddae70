-- The rows of plans of single shifts.
use Rattle.mig_numbers.proofs.Common.{All, All-head, All-tail, AreThere, Bool, DiskNumbers, HandsTight, IsHanded, IsTightPlan, ItemNumbers, List}
use Rattle.mig_numbers.proofs.Common.{Shift, ShiftNumbers, [], arith, cond, count_by, count_by-le-length, false, get_or, input_of, is_relocated}
use Rattle.mig_numbers.proofs.Common.{is_row_of, length, length-filter, length-map-range_with_len, length-range_with_len, made_item, moves, no_item}
use Rattle.mig_numbers.proofs.Common.{parked, plan_rows, range_with_len, refl, rows_for, shift_count, sum_by, sum_by-cons, true, ℕ, ◌*◌, ◌+◌, ◌<◌}
use Rattle.mig_numbers.proofs.Common.{◌==◌, ◌∙◌, ◌∷◌, ◌≡◌, ◌≤◌}
use Rattle.mig_numbers.proofs.Counts.{all_count, all_len, relocated_by}

all_single : (plan : List (List Shift)) → All (λ round. length round ≡ 1) plan → sum_by (λ (round : List Shift). length round) plan ≡ length plan
all_single [] h = refl
all_single (round ∷ plan) h =
    let P : List Shift → Type 0 = λ r. length r ≡ 1 in
    omega (arith, sum_by-cons (λ (r : List Shift). length r) round plan, All-head P round plan h, all_single plan (All-tail P round plan h))

between : (b : Bool) (n : ℕ) → (b ≡ true → (1 ≤ n) × (n ≤ 2)) → (b ≡ false → n ≡ 0) → (cond b 1 0 ≤ n) × (n ≤ 2 * cond b 1 0)
between true n h k = h refl
between false n h k = let none = k refl in (omega (arith, none), omega (arith, none))

module _ (split : Bool) (disks : List DiskNumbers) (items : List ItemNumbers) (plan : List (List Shift))
    (made : IsTightPlan (input_of split disks items) plan)
    (parks : length plan ≡ length (moves (input_of split disks items)) + parked (input_of split disks items) plan) where
  counts : (i : ℕ) → i < length items
      → (rows_for (get_or items i no_item) ≤ count_by (is_row_of i) (plan_rows plan))
      × (count_by (is_row_of i) (plan_rows plan) ≤ 2 * rows_for (get_or items i no_item))
  counts i lt =
      let there : i < length (input_of split disks items).items = omega (arith, lt, length-map-range_with_len made_item 0 (length items)) in
      let b = between (is_relocated (input_of split disks items) i) (shift_count plan i) (made.relocated i there) (made.others i there) in
      let by = relocated_by split disks items i lt in
      (omega (arith, all_count plan i, b.0, by), omega (arith, all_count plan i, b.1, by))

  pub hands_tight : AreThere split disks items → (old shifts : List ShiftNumbers) (count : ℕ) → IsHanded (plan_rows plan) old shifts count
      → HandsTight split disks items old shifts count
  hands_tight there old shifts count handed =
      let input = input_of split disks items in
      let all = range_with_len 0 (length input.items) in
      let single : count ≡ length plan = handed.count_is ∙ all_len plan ∙ all_single plan made.single in
      record {
        there = there;
        rounds = plan;
        made = made;
        in_shifts = handed;
        single = single;
        parks = single ∙ parks;
        least = λ i lt. (counts i lt).0;
        most = λ i lt. (counts i lt).1;
        few = omega (
          arith,
          single,
          parks,
          length-map-range_with_len made_item 0 (length items),
          length-filter (is_relocated input) all,
          count_by-le-length (is_relocated input) all,
          count_by-le-length (λ item. shift_count plan item == 2) all,
          length-range_with_len 0 (length input.items),
        );
      }

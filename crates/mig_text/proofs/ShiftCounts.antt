-- A plan that moves each relocated item once has at most as many shifts as there are items.
use Rattle.mig_text.proofs.Common.{All, AllByRecursion, InputLists, IsInput, List, MAX_FILE_BYTES, Once, PlanText, Runs, Shift, ShiftFits, [], ap}
use Rattle.mig_text.proofs.Common.{arith, count_by, eqb, get_or, get_or-range_with_len, get_or_default, is_of, is_relocated, length}
use Rattle.mig_text.proofs.Common.{length-decimal-le, length-range_with_len, one, range_with_len, recursion_from_All, refl, shift_count, subst}
use Rattle.mig_text.proofs.Common.{sum_by, sum_by-cons, sum_by-le_each, sum_by-swap, ℕ, ◌+◌, ◌<◌, ◌∙◌, ◌∷◌, ◌≡◌, ◌≤◌}
use Rattle.mig_base.proofs.Common.{eq-eqb, get_or-le-sum_by, ◌-◌}
use Rattle.mig_base.proofs.Counting.{at_most_one}
use Rattle.mig_text.proofs.PlanLengths.{shifts_in, plan_length}

abbrev ones : {X : Type 0} → List X → ℕ
ones {X} xs = let f : X → ℕ = λ x. 1 in sum_by f xs

ones_are : {X : Type 0} (xs : List X) → ones xs ≡ length xs
ones_are [] = refl
ones_are {X} (x ∷ xs) = let f : X → ℕ = λ y. 1 in omega (arith, sum_by-cons f x xs, ones_are xs)

-- a number of a range is in it
in_range : (m a n : ℕ) → a ≤ m → m < a + n → 1 ≤ sum_by (λ i. one (eqb m i)) (range_with_len a n)
in_range m a n low high =
    let f : ℕ → ℕ = λ i. one (eqb m i) in
    let range = range_with_len a n in
    let at : get_or range (m - a) 0 ≡ m = omega (arith, get_or-range_with_len a n (m - a) 0 (omega arith)) in
    let here : f (get_or range (m - a) 0) ≡ 1 = ap f at ∙ ap one (eq-eqb m m refl) in
    omega (arith, here, get_or-le-sum_by f range (m - a) 0 (omega (arith, length-range_with_len a n)))

-- shifts of so many items are as many as the items' counts together
round_counts : (n : ℕ) (round : List Shift) → All (λ (s : Shift). s.item.0 < n) round → length round ≤ sum_by (λ i. count_by (is_of i) round) (range_with_len 0 n)
round_counts n round h =
    let each = sum_by-le_each (λ (s : Shift). 1) (λ (s : Shift). sum_by (λ i. one (is_of i s)) (range_with_len 0 n)) round (λ k d lt. in_range (get_or round k d).item.0 0 n (omega arith) (omega (arith, h k d lt))) in
    omega (arith, ones_are round, each, sum_by-swap (λ (s : Shift) i. one (is_of i s)) round (range_with_len 0 n))

plan_counts : (n : ℕ) (plan : List (List Shift)) → AllByRecursion (λ (round : List Shift). All (λ (s : Shift). s.item.0 < n) round) plan
    → shifts_in plan ≤ sum_by (λ (round : List Shift). sum_by (λ i. count_by (is_of i) round) (range_with_len 0 n)) plan
plan_counts n [] h = omega arith
plan_counts n (round ∷ plan) h =
    omega (arith, sum_by-cons (λ (r : List Shift). sum_by (λ i. count_by (is_of i) r) (range_with_len 0 n)) round plan, round_counts n round h.0, plan_counts n plan h.1)

-- where each item stands in one shift at most, the shifts are at most as many as the items
pub few_shifts : (input : InputLists) (plan : List (List Shift)) → Once input plan → All (λ (round : List Shift). All (ShiftFits input) round) plan → shifts_in plan ≤ length input.items
few_shifts input plan once fits =
    let n : ℕ = length input.items in
    let counts = plan_counts n plan (recursion_from_All _ plan (λ k d h j e lt. (fits k d h j e lt).item)) in
    let each = sum_by-le_each (λ i. shift_count plan i) (λ i. 1) (range_with_len 0 n)
    (λ k d lt.
    let len : k < n = omega (arith, length-range_with_len 0 n) in
    let at : get_or (range_with_len 0 n) k d ≡ k = get_or-range_with_len 0 n k d len ∙ omega arith in
    rw at (rw (once k len) (at_most_one (is_relocated input k)))) in
    omega (arith, counts, sum_by-swap (λ (round : List Shift) i. count_by (is_of i) round) plan (range_with_len 0 n), each, ones_are (range_with_len 0 n), length-range_with_len 0 n)

-- rounds with a shift each are at most as many as the shifts
few_rounds : (plan : List (List Shift)) → AllByRecursion (λ (round : List Shift). 0 < length round) plan → length plan ≤ shifts_in plan
few_rounds [] h = omega arith
few_rounds (round ∷ plan) h = omega (arith, h.0, few_rounds plan h.1)

-- the text of such a plan is short
pub short_text : (input : InputLists) (plan : List (List Shift)) (bytes : List ℕ) → IsInput input → Runs input plan → Once input plan → PlanText input plan bytes → length bytes ≤ MAX_FILE_BYTES
short_text input plan bytes valid runs once text =
    let some : AllByRecursion (λ (round : List Shift). 0 < length round) plan = recursion_from_All _ plan (λ k d h. subst (λ (r : List Shift). 0 < length r) (get_or_default plan k [] d h) (runs.rounds k h).some) in
    let long = plan_length input valid 5 plan bytes (λ k d h. let few = text.fits.few_shifts k d h in length-decimal-le 5 (length (get_or plan k d)) (omega arith) (omega (arith, few)) (omega (arith, few))) text in
    omega (arith, long, few_rounds plan some, few_shifts input plan once text.fits.shifts, valid.few_items)

-- Where all items are on their next disks, the rounds are a plan.
use Rattle.mig_tight.proofs.Common.{All, All-head, At, Bool, DiskId, Err, Fits, HasFreeSlot, HasMove, HasNoPlanUnlessMemory, IfErr, IfOk, InputLists}
use Rattle.mig_tight.proofs.Common.{IsArrivedAt, IsErrAnd, IsInput, IsNoFreeOrMemory, IsOnNext, IsRoomy, IsSoundState, IsTightCause, IsTightPlan}
use Rattle.mig_tight.proofs.Common.{IsTooManyOrMemory, Layout, List, Memory, NoFree, Ok, Once, Option, PlanFits, PlanState, Result, Runs, Shift}
use Rattle.mig_tight.proofs.Common.{ShiftFits, Some, Spot, TightError, TooMany, [], ap, arith, cases_eq, cond, count_by, count_by-le-one, eq-eqb, eqb}
use Rattle.mig_tight.proofs.Common.{false, false≢true, get_or, get_or-le-sum_by, get_or-range_with_len, inl, inr, is_of, is_relocated, layout_of}
use Rattle.mig_tight.proofs.Common.{length, length-filter, length-range_with_len, moves, nat_tests, no_spot, one, option_map, parked, range_with_len}
use Rattle.mig_tight.proofs.Common.{refl, same_disk, shift_count, slice_get, slice_get-get_or, source, spot_at, subst, sum_by, sum_by-add}
use Rattle.mig_tight.proofs.Common.{sum_by-cons, sum_by-le, sum_by-le_each, sum_by-same_each, sum_by-swap, sym, target, true, ℕ, ◌+◌, ◌<◌, ◌∙◌, ◌∷◌}
use Rattle.mig_tight.proofs.Common.{◌≡◌, ◌≤◌}
use Rattle.mig_tight.proofs.Histories.{relocated_from}
use Rattle.mig_tight.proofs.StateSteps.{relocated_apart}
use Rattle.mig_tight.proofs.RunningPlans.{runs_fits, runs_free}

module _ (input : InputLists) (is : IsInput input) (s : PlanState) (st : IsSoundState input s) (on_next : (item : ℕ) → item < length input.items → IsOnNext input s.spots item) where
  arrived : (item : ℕ) → item < length input.items → IsArrivedAt input (At input s.rounds (length s.rounds)) item
  arrived item l =
      let here : layout_of s.spots item ≡ Some (spot_at s.spots item) = slice_get-get_or s.spots item no_spot (omega (arith, l, st.placed.len)) in
      let next : slice_get input.next item ≡ Some (get_or input.next item (record { 0 = 0 })) = slice_get-get_or input.next item (record { 0 = 0 }) (omega (arith, l, is.next_len)) in
      ap (λ (a : Layout). option_map (λ (x : Spot). x.disk) (a item)) st.reaches.ends
      ∙ ap (λ (o : Option Spot). option_map (λ (x : Spot). x.disk) o) here
      ∙ ap (λ (d : DiskId). Some d) (same_disk (spot_at s.spots item).disk (get_or input.next item (record { 0 = 0 })) (on_next item l))
      ∙ sym next

  runs : Runs input s.rounds
  runs = record { rounds = st.reaches.legal; arrives = arrived }

  shifted_some : (item : ℕ) → item < length input.items → is_relocated input item ≡ true → (1 ≤ shift_count s.rounds item) × (shift_count s.rounds item ≤ 2)
  shifted_some item l r = grind (arith, relocated_apart)

  shifted_none : (item : ℕ) → item < length input.items → is_relocated input item ≡ false → shift_count s.rounds item ≡ 0
  shifted_none item l f = grind (arith, false≢true)

  shifted_once : IsRoomy input → Once input s.rounds
  shifted_once roomy item l = grind (arith, relocated_apart, shifted_none)

  pub tight_end : IsTightPlan input s.rounds
  tight_end = record { runs = runs; single = st.reaches.single; relocated = shifted_some; others = shifted_none; once = shifted_once }

-- each round of one shift or more is counted at some item
sum_ones : {X : Type 0} (xs : List X) → sum_by (λ x. 1) xs ≡ length xs
sum_ones [] = refl
sum_ones {X} (x ∷ xs) = let f : X → ℕ = λ y. 1 in omega (arith, sum_by-cons f x xs, sum_ones xs)

round_counted : (input : InputLists) (round : List Shift) → 0 < length round → All (ShiftFits input) round → 1 ≤ sum_by (λ i. count_by (is_of i) round) (range_with_len 0 (length input.items))
round_counted input [] some fits = absurd (omega (arith, some))
round_counted input (s ∷ ss) some fits =
    let n = length input.items in
    let items = range_with_len 0 n in
    let there = (All-head (ShiftFits input) s ss fits).item in
    let f : ℕ → ℕ = λ i. count_by (is_of i) (s ∷ ss) in
    let at : get_or items s.item.0 0 ≡ s.item.0 = get_or-range_with_len 0 n s.item.0 0 there ∙ omega arith in
    omega (arith, get_or-le-sum_by f items s.item.0 0 (omega (arith, there, length-range_with_len 0 n)), ap f at, sum_by-cons (λ x. one (is_of s.item.0 x)) s ss, ap one (eq-eqb s.item.0 s.item.0 refl))

-- a round of one shift is counted once
range_once : (n k : ℕ) → count_by (λ i. eqb k i) (range_with_len 0 n) ≤ 1
range_once n k = grind (arith, count_by-le-one, get_or-range_with_len, length-range_with_len, nat_tests)

one_shift : (s : Shift) (i : ℕ) → count_by (is_of i) (s ∷ []) ≡ one (eqb s.item.0 i)
one_shift s i = omega (arith, sum_by-cons (λ x. one (is_of i x)) s [])

round_counted_once : (input : InputLists) (round : List Shift) → length round ≡ 1 → All (ShiftFits input) round → sum_by (λ i. count_by (is_of i) round) (range_with_len 0 (length input.items)) ≡ 1
round_counted_once input [] single fits = absurd (omega (arith, single))
round_counted_once input (s ∷ t ∷ ss) single fits = absurd (omega (arith, single))
round_counted_once input (s ∷ []) single fits =
    let items = range_with_len 0 (length input.items) in
    omega (arith, round_counted input (s ∷ []) (omega arith) fits, sum_by-same_each (λ i. count_by (is_of i) (s ∷ [])) (λ i. one (eqb s.item.0 i)) items (λ k d l. one_shift s (get_or items k d)), range_once (length input.items) s.item.0)

sum_same : {X : Type 0} (f : X → ℕ) (xs : List X) → All (λ x. f x ≡ 1) xs → sum_by f xs ≡ length xs
sum_same f xs h = sum_by-same_each f (λ x. 1) xs h ∙ sum_ones xs

twice : (c : ℕ) (b : Bool) → (b ≡ true → (1 ≤ c) × (c ≤ 2)) → (b ≡ false → c ≡ 0) → c ≡ one b + one (eqb c 2)
twice c true some none = let h = some refl in let low = h.0 in let high = h.1 in grind (arith, nat_tests)
twice c false some none = let h = none refl in grind (arith, nat_tests)

-- a tight plan has a round for each relocated item, and one more for each item that it shifts twice
pub rounds_counted : (input : InputLists) (plan : List (List Shift)) → IsTightPlan input plan → All (λ round. All (ShiftFits input) round) plan → length plan ≡ length (moves input) + parked input plan
rounds_counted input plan tight fits =
    let n = length input.items in
    let items = range_with_len 0 n in
    let rounds = sum_same (λ r. sum_by (λ i. count_by (is_of i) r) items) plan (λ k d l. round_counted_once input (get_or plan k d) (tight.single k d l) (fits k d l)) in
    let swap = sum_by-swap (λ r i. count_by (is_of i) r) plan items in
    let each = sum_by-same_each (λ i. shift_count plan i) (λ i. one (is_relocated input i) + one (eqb (shift_count plan i) 2)) items (λ k d l.
    let m : k < n = omega (arith, l, length-range_with_len 0 n) in
    let i = get_or items k d in
    let there : i < n = omega (arith, m, get_or-range_with_len 0 n k d m) in
    twice (shift_count plan i) (is_relocated input i) (tight.relocated i there) (tight.others i there)) in
    omega (arith, rounds, swap, each, sum_by-add (λ i. one (is_relocated input i)) (λ i. one (eqb (shift_count plan i) 2)) items, length-filter (is_relocated input) items)

pub few_rounds : (input : InputLists) (rounds : List (List Shift)) → length input.items ≤ 65536 → All (λ round. length round ≡ 1) rounds → All (λ round. All (ShiftFits input) round) rounds → ((item : ℕ) → item < length input.items → shift_count rounds item ≤ 2) → length rounds ≤ 131072
few_rounds input rounds few single fits most =
    let n = length input.items in
    let items = range_with_len 0 n in
    let each = sum_by-le_each (λ r. 1) (λ r. sum_by (λ i. count_by (is_of i) r) items) rounds (λ k d l. round_counted input (get_or rounds k d) (omega (arith, single k d l)) (fits k d l)) in
    let swap = sum_by-swap (λ r i. count_by (is_of i) r) rounds items in
    let all = sum_by-le (λ i. shift_count rounds i) 2 items (λ k d l.
    let m : k < n = omega (arith, l, length-range_with_len 0 n) in
    subst (λ j. shift_count rounds j ≤ 2) (sym (get_or-range_with_len 0 n k d m ∙ omega arith)) (most k m)) in
    omega (arith, each, sum_ones rounds, swap, all, length-range_with_len 0 n, few)

pub plan_fits : (input : InputLists) (s : PlanState) → IsInput input → IsSoundState input s → PlanFits input s.rounds
plan_fits input s is st = grind (arith, few_rounds)

-- where nothing is relocated, no round is a plan
pub tight_nothing : (input : InputLists) → IsInput input → (HasMove input → ⊥) → IsTightPlan input []
tight_nothing input is none =
    let still : (item : ℕ) → item < length input.items → is_relocated input item ≡ true → ⊥ = λ item l r. none (item, l, r) in
    record {
      runs = record {
        rounds = λ k l. absurd (omega (arith, l));
        arrives = λ item l.
            slice_map input.spots item (omega (arith, l, is.spots_len)) ∙ ap (λ (d : DiskId). Some d) (same_disk (spot_at input.spots item).disk (get_or input.next item (record { 0 = 0 })) (stays item l (still item l))) ∙ sym (slice_get-get_or input.next item (record { 0 = 0 }) (omega (arith, l, is.next_len)));
      };
      single = λ k d l. absurd (omega (arith, l));
      relocated = λ item l r. absurd (still item l r);
      others = λ item l f. refl;
      once = λ roomy item l. by_case item (is_relocated input item) refl (still item l);
    }
  where
    slice_map : (spots : List Spot) (item : ℕ) → item < length spots → option_map (λ (x : Spot). x.disk) (slice_get spots item) ≡ Some (spot_at spots item).disk
    slice_map spots item l = ap (λ (o : Option Spot). option_map (λ (x : Spot). x.disk) o) (slice_get-get_or spots item no_spot l)

    stays : (item : ℕ) → item < length input.items → (is_relocated input item ≡ true → ⊥) → source input item ≡ target input item
    stays item l not_moved = elim (cases_eq (source input item) (target input item)) [
      | inl e ↦ e
      | inr ne ↦ absurd (not_moved (relocated_from input item ne))
    ]

    by_case : (item : ℕ) (b : Bool) → is_relocated input item ≡ b → (is_relocated input item ≡ true → ⊥) → shift_count [] item ≡ cond (is_relocated input item) 1 0
    by_case item true e not_moved = absurd (not_moved e)
    by_case item false e not_moved = sym (ap {B = ℕ} (λ c. cond c 1 0) e)

-- What is so of a plan that is found, and of each cause, says when each answer comes
module _ (input : InputLists) (is : IsInput input) where
  pub no_plan : (e : TightError) → IsTightCause input e → HasNoPlanUnlessMemory input e
  no_plan (TooMany disk needs slots) cause = λ plan runs. absurd (omega (arith, cause.over, cause.needs_is, cause.slots_is, runs_fits input is plan runs disk.0 cause.there))
  no_plan NoFree cause = λ plan runs. cause.2 (runs_free input is plan runs cause.1)
  no_plan Memory cause = tt

  pub too_many : (r : Result (List (List Shift)) TightError) → IfOk r (IsTightPlan input) → IfErr r (IsTightCause input) → (Fits input → ⊥) → IsErrAnd r IsTooManyOrMemory
  too_many (Ok plan) tight cause over = absurd (over (runs_fits input is plan tight.runs))
  too_many (Err (TooMany disk needs slots)) tight cause over = tt
  too_many (Err NoFree) tight cause over = absurd (over cause.0)
  too_many (Err Memory) tight cause over = tt

  pub no_free : (r : Result (List (List Shift)) TightError) → IfOk r (IsTightPlan input) → IfErr r (IsTightCause input) → Fits input → HasMove input → (HasFreeSlot input → ⊥) → IsErrAnd r IsNoFreeOrMemory
  no_free (Ok plan) tight cause fits move none = absurd (none (runs_free input is plan tight.runs move))
  no_free (Err (TooMany disk needs slots)) tight cause fits move none = absurd (omega (arith, cause.over, cause.needs_is, cause.slots_is, fits disk.0 cause.there))
  no_free (Err NoFree) tight cause fits move none = tt
  no_free (Err Memory) tight cause fits move none = tt

  pub parked_rounds : (r : Result (List (List Shift)) TightError) → IfOk r (IsTightPlan input) → IfOk r (PlanFits input) → IfOk r (λ plan. length plan ≡ length (moves input) + parked input plan)
  parked_rounds (Ok plan) tight fits = rounds_counted input plan tight fits.shifts
  parked_rounds (Err e) tight fits = tt

-- The rounds that pairs are given are a schedule that keeps each limit.
use Rattle.mig_numbers.proofs.Common.{All, All-head, All-tail, AreSound, Bool, Cert, Found, IsCertified, IsSchedule, IsScheduled, IsShiftedAt}
use Rattle.mig_numbers.proofs.Common.{ItemNumbers, KeepsLimits, LimitNumbers, List, Needs, Obeys, PairNumbers, Shift, [], ap, arith, cases_lt, cond}
use Rattle.mig_numbers.proofs.Common.{count_by, disks_for, eq-eqb, false, filter, filter_passes, found_of, get_or, get_or-map-range_with_len, inl}
use Rattle.mig_numbers.proofs.Common.{input_of, inr, is_of, is_relocated, item_for, items_for, length, length-map-range_with_len, list_any, made_item}
use Rattle.mig_numbers.proofs.Common.{map, moves, moves_there, no_item, no_pair, obeys, position_or_len, range_with_len, refl, round_at, round_for}
use Rattle.mig_numbers.proofs.Common.{round_in, round_of, rows_for, scheduled, set_in, shift_count, shifted_first, subst, suc, sum_by-cons, sym}
use Rattle.mig_numbers.proofs.Common.{transfer, true, zero, ℕ, ◌+◌, ◌<◌, ◌==◌, ◌||◌, ◌∙◌, ◌∷◌, ◌≡◌, ◌≢◌, ◌≤◌}
use Rattle.mig_check.proofs.Common.{get_or-le-sum_by}
use Rattle.mig_numbers.proofs.Counts.{found_is, once_shift}
use Rattle.mig_numbers.proofs.Inputs.{keeps}

-- Rounds that shift an item

none_by : (b c : Bool) (n : ℕ) → cond b 1 0 + n ≡ 0 → (n ≡ 0 → c ≡ false) → (b || c) ≡ false
none_by true c n h rest = absurd (omega (arith, h))
none_by false c n h rest = rest (omega (arith, h))

some_by : (b c : Bool) (n : ℕ) → 1 ≤ cond b 1 0 + n → (1 ≤ n → c ≡ true) → (b || c) ≡ true
some_by true c n h rest = refl
some_by false c n h rest = rest (omega (arith, h))

any_none : (m : ℕ) (round : List Shift) → count_by (is_of m) round ≡ 0 → list_any (is_of m) round ≡ false
any_none m [] h = refl
any_none m (s ∷ ss) h = none_by (is_of m s) (list_any (is_of m) ss) (count_by (is_of m) ss) (omega (arith, h, sum_by-cons (λ x. cond (is_of m x) 1 0) s ss)) (any_none m ss)

any_some : (m : ℕ) (round : List Shift) → 1 ≤ count_by (is_of m) round → list_any (is_of m) round ≡ true
any_some m [] h = absurd (omega (arith, h))
any_some m (s ∷ ss) h = some_by (is_of m s) (list_any (is_of m) ss) (count_by (is_of m) ss) (omega (arith, h, sum_by-cons (λ x. cond (is_of m x) 1 0) s ss)) (any_some m ss)

last_round : (plan : List (List Shift)) (m k n : ℕ) → IsShiftedAt plan m k → k < n → n ≤ length plan → round_in plan n m ≡ k + 1
last_round plan m k zero at lt most = absurd (omega (arith, lt))
last_round plan m k (suc n) at lt most = elim (cases_lt k n) [
  | inl less ↦
      let other : n ≢ k = λ e. absurd (omega (arith, less, e)) in
      let none = any_none m (round_at plan (suc n)) (at.others n (omega (arith, most)) other) in
      ap (λ b. cond b (n + 1) (round_in plan n m)) none ∙ last_round plan m k n at less (omega (arith, most))
  | inr here ↦
      let same : k ≡ n = omega (arith, lt, here) in
      let once = any_some m (round_at plan (suc k)) (omega (arith, at.here)) in
      ap (λ b. cond b (n + 1) (round_in plan n m)) (ap (λ r. list_any (is_of m) (round_at plan (suc r))) (sym same) ∙ once) ∙ omega (arith, same)
]

no_round : (plan : List (List Shift)) (m n : ℕ) → shift_count plan m ≡ 0 → n ≤ length plan → round_in plan n m ≡ 0
no_round plan m zero none most = refl
no_round plan m (suc n) none most =
    let least = get_or-le-sum_by (λ (r : List Shift). count_by (is_of m) r) plan n [] (omega (arith, most)) in
    ap (λ b. cond b (n + 1) (round_in plan n m)) (any_none m (round_at plan (suc n)) (omega (arith, none, least))) ∙ no_round plan m n none (omega (arith, most))

only_round : (plan : List (List Shift)) (m : ℕ) → shift_count plan m ≡ 1 → round_in plan (length plan) m ≡ round_of plan m
only_round plan m once =
    let first = shifted_first plan m once in
    last_round plan m (position_or_len (λ r. list_any (is_of m) r) plan) (length plan) first.1 first.0 (omega arith)

-- Schedules by the same rounds

filter_alike : (f g : ℕ → ℕ) (r : ℕ) (xs : List ℕ) → All (λ m. f m ≡ g m) xs → filter (λ m. f m == r) xs ≡ filter (λ m. g m == r) xs
filter_alike f g r [] h = refl
filter_alike f g r (x ∷ xs) h =
    let P : ℕ → Type 0 = λ m. f m ≡ g m in
    ap (λ n. cond (n == r) (x ∷ filter (λ m. f m == r) xs) (filter (λ m. f m == r) xs)) (All-head P x xs h)
    ∙ ap (λ ys. cond (g x == r) (x ∷ ys) ys) (filter_alike f g r xs (All-tail P x xs h))

module _ (split : Bool) (limits : List LimitNumbers) (pairs : List PairNumbers) (plan : List (List Shift)) (cert : Cert) (found : Found) (rounds : List ℕ) where
  abbrev items : List ItemNumbers
  items = items_for pairs

  pub scheduled_pairs : AreSound split (disks_for limits) items → IsCertified (input_of split (disks_for limits) items) plan cert → found ≡ found_of cert
      → ((i : ℕ) → i < length pairs → round_for rounds i ≡ round_in plan (length plan) i) → IsScheduled split limits pairs rounds (set_in cert.bound) found
  scheduled_pairs sound made is each =
      let input = input_of split (disks_for limits) items in
      let names = length-map-range_with_len made_item 0 (length items) in
      let items_len = length-map-range_with_len (item_for pairs) 0 (length pairs) in
      let once = made.planned.once in
      let same : All (λ m. round_of plan m ≡ round_for rounds m) (moves input) = λ k d lt.
      let m = get_or (moves input) k d in
      let there = moves_there input k d lt in
      let taken = (scheduled_once k d lt) in
      sym (each m (omega (arith, there, names, items_len)) ∙ only_round plan m taken) in
      let count : found.rounds ≡ length plan = ap (λ (f : Found). f.rounds) is ∙ (found_is cert).0 ∙ made.holds.rounds in
      let valid = keeps split (disks_for limits) items sound.few sound.disks_sound sound.items_sound in
      let all = scheduled input plan once in
      record {
        sound = sound;
        plan = plan;
        certificate = cert;
        certified = made;
        set_is = refl;
        found_is = is;
        each = each;
        takes = subst (λ n. IsSchedule input n (round_for rounds)) (sym count) (λ k d lt.
            subst (λ r. (1 ≤ r) × (r ≤ length plan)) (same k d lt) (all k d lt));
        obeys = subst (λ n. Obeys input n (round_for rounds)) (sym count) (λ r least most.
            subst (λ ms. KeepsLimits input.disks (map (transfer input) ms)) (filter_alike (round_of plan) (round_for rounds) r (moves input) same) (obeys input plan valid made.planned.runs once r least most));
        rests = λ i lt ends.
            let item = get_or-map-range_with_len (item_for pairs) 0 (length pairs) i i no_item lt (omega arith) in
            let none : shift_count plan i ≡ 0 = once_shift split (disks_for limits) items plan made.planned i (omega (arith, lt, items_len)) ∙ ap rows_for item ∙ ap (λ b. cond b 0 1) (eq-eqb (get_or pairs i no_pair).from (get_or pairs i no_pair).to ends) in
            each i lt ∙ no_round plan i (length plan) none (omega arith);
        needs = subst (Needs input) (sym (ap (λ (f : Found). f.value) is ∙ (found_is cert).1)) made.needs;
      }
    where
      scheduled_once : (k d : ℕ) → k < length (moves (input_of split (disks_for limits) items)) → shift_count plan (get_or (moves (input_of split (disks_for limits) items)) k d) ≡ 1
      scheduled_once k d lt =
          let input = input_of split (disks_for limits) items in
          made.planned.once (get_or (moves input) k d) (moves_there input k d lt) ∙ ap (λ (b : Bool). cond b 1 0) (filter_passes (is_relocated input) (range_with_len 0 (length input.items)) k d lt)

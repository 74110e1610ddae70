-- In how many shifts an item stands.
use Rattle.mig_check.proofs.Common.{All, All-head, All-tail, AllPairs, At, Bool, DiskId, InputLists, IsInput, IsTooOften, IsTrue, List, Once, Runs, Shift, Some, Spot, [], ap, arith}
use Rattle.mig_check.proofs.Common.{cases_Bool, cases_eq, cases_lt, count_by, eq-eqb, false, get_or, get_or-le-sum_by, inl, inr, is_of, is_relocated, length, ne_eqb, no_spot, one, option_map}
use Rattle.mig_check.proofs.Common.{refl, round_at, shift_count, slice_get, slice_get-get_or, source, spot_before, suc, sum_by, sum_by-append, sum_by-cons, sym, take, take_more, target, true, ℕ}
use Rattle.mig_check.proofs.Common.{◌+◌, ◌<◌, ◌∙◌, ◌∷◌, ◌≡◌, ◌≢◌, ◌≤◌}

count_cons : (item : ℕ) (s : Shift) (ss : List Shift) → count_by (is_of item) (s ∷ ss) ≡ one (is_of item s) + count_by (is_of item) ss
count_cons item s ss = sum_by-cons (λ (t : Shift). one (is_of item t)) s ss

none_of : (item : ℕ) (round : List Shift) → All (λ s. s.item.0 ≢ item) round → count_by (is_of item) round ≡ 0
none_of item [] others = refl
none_of item (s ∷ ss) others =
    let e : one (is_of item s) ≡ 0 = rw (ne_eqb s.item.0 item (All-head (λ (t : Shift). t.item.0 ≢ item) s ss others)) refl in
    omega (arith, count_cons item s ss, e, none_of item ss (All-tail (λ (t : Shift). t.item.0 ≢ item) s ss others))

-- where no item stands twice, each stands once at most
pub once_in_round : (item : ℕ) (round : List Shift) → AllPairs (λ s t. s.item ≢ t.item) round → count_by (is_of item) round ≤ 1
once_in_round item [] apart = omega arith
once_in_round item (s ∷ ss) apart = elim (cases_eq s.item.0 item) [
  | inl same ↦
      let e : one (is_of item s) ≡ 1 = rw (eq-eqb s.item.0 item same) refl in
      let rest : All (λ t. t.item.0 ≢ item) ss = λ k d h is. apart 0 (suc k) d (omega arith) (omega (arith, h)) (λ i. record { 0 = (same ∙ sym is) i }) in
      omega (arith, count_cons item s ss, e, none_of item ss rest)
  | inr other ↦
      let e : one (is_of item s) ≡ 0 = rw (ne_eqb s.item.0 item other) refl in
      omega (arith, count_cons item s ss, e, once_in_round item ss (λ j k d l h. apart (suc j) (suc k) d (omega (arith, l)) (omega (arith, h))))
]

-- one round more
pub shift_count_more : (plan : List (List Shift)) (k : ℕ) (item : ℕ) → k < length plan → shift_count (take (k + 1) plan) item ≡ shift_count (take k plan) item + count_by (is_of item) (round_at plan (suc k))
shift_count_more plan k item there =
    let f : List Shift → ℕ = λ round. count_by (is_of item) round in
    let round = get_or plan k [] in
    ap (λ (p : List (List Shift)). sum_by f p) (take_more plan k [] there) ∙ omega (arith, sum_by-append f (take k plan) (round ∷ []), sum_by-cons f round [])

-- an item that no shift moves stays
never : (input : InputLists) (plan : List (List Shift)) (item : ℕ) → shift_count plan item ≡ 0 → At input plan (length plan) item ≡ slice_get input.spots item
never input plan item none = spot_before input plan item (length plan) (λ r h. let e = get_or-le-sum_by (λ (round : List Shift). count_by (is_of item) round) plan r [] h in omega (arith, e, none))

-- so a relocated item is moved
moved : (input : InputLists) (plan : List (List Shift)) → IsInput input → Runs input plan → (item : ℕ) → item < length input.items → shift_count plan item ≡ 0 → is_relocated input item ≡ false
moved input plan valid runs item there none =
    let spot = get_or input.spots item no_spot in
    let next = get_or input.next item (record { 0 = 0 }) in
    let at : slice_get input.spots item ≡ Some spot = slice_get-get_or input.spots item no_spot (omega (arith, there, valid.spots_len)) in
    let to : slice_get input.next item ≡ Some next = slice_get-get_or input.next item (record { 0 = 0 }) (omega (arith, there, valid.next_len)) in
    let arrived : option_map (λ (s : Spot). s.disk) (Some spot) ≡ Some next = ap (option_map (λ (s : Spot). s.disk)) (sym (never input plan item none ∙ at)) ∙ runs.arrives item there ∙ to in
    let same : spot.disk ≡ next = in_some spot.disk next arrived in
    rw (eq-eqb (source input item) (target input item) (ap (λ (d : DiskId). d.0) same)) refl
  where
    in_some : (x y : DiskId) → Some x ≡ Some y → x ≡ y
    in_some x y e = cc

-- each relocated item once and no other, where none is moved too often
pub once_from : (input : InputLists) (plan : List (List Shift)) (counts : List ℕ) → IsInput input → Runs input plan → length counts ≡ length input.items → ((item : ℕ) → item < length counts → get_or counts item 0 ≡ shift_count plan item) → ((item : ℕ) → ¬ IsTooOften input counts item) → Once input plan
once_from input plan counts valid runs len counted right item there = elim (cases_Bool (is_relocated input item)) [
  | inl relocated ↦ rw relocated (elim (cases_lt 1 (shift_count plan item)) [
    | inl more ↦ absurd (right item (there, inl (omega (arith, more, is))))
    | inr most ↦ elim (cases_lt 0 (shift_count plan item)) [
      | inl some ↦ omega (arith, some, most)
      | inr none ↦ absurd (not_both relocated (moved input plan valid runs item there (omega (arith, none))))
    ]
  ])
  | inr stays ↦ rw stays (elim (cases_lt 0 (shift_count plan item)) [
    | inl some ↦ absurd (right item (there, inr (omega (arith, some, is), not_both' stays)))
    | inr none ↦ omega (arith, none)
  ])
]
  where
    is : get_or counts item 0 ≡ shift_count plan item
    is = counted item (omega (arith, there, len))

    not_both : {b : Bool} → b ≡ true → b ≡ false → ⊥
    not_both t f = absurd (let e : ◌≡◌ {A = Bool} true false = sym t ∙ f in cc)

    not_both' : {b : Bool} → b ≡ false → IsTrue b → ⊥
    not_both' f t = not_both t f

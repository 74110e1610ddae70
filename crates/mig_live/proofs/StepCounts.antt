-- How many steps there are.
use Rattle.mig_live.proofs.Common.{List, Shift, [], arith, cases_lt, drop, inl, inr, length, length-append, marks_by, refl, round_size, shifts_of}
use Rattle.mig_live.proofs.Common.{steps_after, subst, suc, sum_by, sum_by-cons, zero, ℕ, ◌*◌, ◌++◌, ◌+◌, ◌-◌, ◌<◌, ◌∷◌, ◌≡◌, ◌≤◌}
use Rattle.std.proofs.lemmas.Bool.{le-ltb, lt-ltb}

abbrev pub steps_of_rounds : List (List Shift) → ℕ
steps_of_rounds plan = sum_by (λ shifts. 2 * length shifts + 2) plan

pub first_steps : (r : List Shift) (rs : List (List Shift)) → steps_of_rounds (r ∷ rs) ≡ 2 * length r + 2 + steps_of_rounds rs
first_steps r rs = sum_by-cons (λ (shifts : List Shift). 2 * length shifts + 2) r rs

-- a round more
pub steps_next : (plan : List (List Shift)) (k : ℕ) → k < length plan → steps_after plan k ≡ 2 * round_size plan (suc k) + 2 + steps_after plan (suc k)
steps_next [] k lt = absurd (omega arith)
steps_next (r ∷ rs) zero lt =
    let a : steps_after (r ∷ rs) zero ≡ steps_of_rounds (r ∷ rs) + 1 = refl in
    let b : steps_after (r ∷ rs) (suc zero) ≡ steps_of_rounds rs + 1 = refl in
    let l : round_size (r ∷ rs) (suc zero) ≡ length r = refl in
    omega (arith, a, b, l, first_steps r rs)
steps_next (r ∷ rs) (suc k) lt = steps_next rs k (omega arith)

-- after the last round
pub steps_last : (plan : List (List Shift)) (k : ℕ) → length plan ≤ k → steps_after plan k ≡ 1
steps_last [] zero le = refl
steps_last [] (suc k) le = refl
steps_last (r ∷ rs) zero le = absurd (omega arith)
steps_last (r ∷ rs) (suc k) le = steps_last rs k (omega arith)

-- a round past the last has no shift
pub shifts_past : (plan : List (List Shift)) (k : ℕ) → length plan ≤ k → round_size plan (suc k) ≡ 0
shifts_past [] k le = refl
shifts_past (r ∷ rs) zero le = absurd (omega arith)
shifts_past (r ∷ rs) (suc k) le = shifts_past rs k (omega arith)

pub steps_few : (plan : List (List Shift)) (k : ℕ) → steps_after plan k ≤ 2 * length (shifts_of plan) + 2 * length plan + 1
steps_few [] zero = omega arith
steps_few [] (suc k) = omega arith
steps_few (r ∷ rs) zero =
    let a : steps_after (r ∷ rs) zero ≡ steps_of_rounds (r ∷ rs) + 1 = refl in
    let b : steps_after rs zero ≡ steps_of_rounds rs + 1 = refl in
    let n : length (shifts_of (r ∷ rs)) ≡ length (r ++ shifts_of rs) = refl in
    omega (arith, a, b, n, first_steps r rs, length-append r (shifts_of rs), steps_few rs zero)
steps_few (r ∷ rs) (suc k) =
    let a : steps_after (r ∷ rs) (suc k) ≡ steps_after rs k = refl in
    let n : length (shifts_of (r ∷ rs)) ≡ length (r ++ shifts_of rs) = refl in
    omega (a, n, arith, length-append r (shifts_of rs), steps_few rs k)

pub steps_more : (plan : List (List Shift)) (k : ℕ) → k < length plan → steps_after plan k ≡ 2 * round_size plan (k + 1) + 2 + steps_after plan (k + 1)
steps_more plan k lt = subst (λ (n : ℕ). steps_after plan k ≡ 2 * round_size plan n + 2 + steps_after plan n) (let e : suc k ≡ k + 1 = omega arith in e) (steps_next plan k lt)

pub shifts_few : (plan : List (List Shift)) (k : ℕ) → round_size plan k ≤ length (shifts_of plan)
shifts_few plan zero = omega arith
shifts_few [] (suc k) = let none : round_size [] (suc k) ≡ 0 = refl in omega (arith, none)
shifts_few (r ∷ rs) (suc zero) =
    let here : round_size (r ∷ rs) (suc zero) ≡ length r = refl in
    let n : length (shifts_of (r ∷ rs)) ≡ length (r ++ shifts_of rs) = refl in
    omega (arith, here, n, length-append r (shifts_of rs))
shifts_few (r ∷ rs) (suc (suc k)) =
    let there : round_size (r ∷ rs) (suc (suc k)) ≡ round_size rs (suc k) = refl in
    let n : length (shifts_of (r ∷ rs)) ≡ length (r ++ shifts_of rs) = refl in
    omega (arith, there, n, length-append r (shifts_of rs), shifts_few rs (suc k))

-- the steps from the mark of a round on, that round's erasures among them
abbrev pub steps_from : List (List Shift) → ℕ → ℕ
steps_from plan r = round_size plan r + steps_after plan r

-- later marks leave fewer
pub steps_fall : (plan : List (List Shift)) (a b : ℕ) → a ≤ b → b ≤ length plan → steps_from plan b ≤ steps_from plan a
steps_fall plan zero zero le most = omega arith
steps_fall plan (suc a) zero le most = absurd (omega arith)
steps_fall plan a (suc b) le most = elim (cases_lt b a) [
  | inl lt ↦ (let same : suc b ≡ a = omega (arith, lt, le) in subst (λ (n : ℕ). steps_from plan (suc b) ≤ steps_from plan n) same (omega arith))
  | inr before ↦ omega (arith, steps_next plan b most, steps_fall plan a b before (omega arith))
]

-- Marks

-- after the last round there is no mark
pub marks_none : (plan : List (List Shift)) (k steps : ℕ) → length plan ≤ k → marks_by (drop k plan) steps ≡ 0
marks_none [] zero steps le = refl
marks_none [] (suc k) steps le = refl
marks_none (r ∷ rs) zero steps le = absurd (omega arith)
marks_none (r ∷ rs) (suc k) steps le = marks_none rs k steps (omega arith)

-- the next round isn't marked
pub marks_before : (plan : List (List Shift)) (k steps : ℕ) → k < length plan → steps < round_size plan (suc k) + 2 → marks_by (drop k plan) steps ≡ 0
marks_before [] k steps lt few = absurd (omega arith)
marks_before (r ∷ rs) zero steps lt few = rw (lt-ltb steps (length r + 2) few) refl
marks_before (r ∷ rs) (suc k) steps lt few = marks_before rs k steps (omega arith) few

-- or it is
pub marks_after : (plan : List (List Shift)) (k steps : ℕ) → k < length plan → round_size plan (suc k) + 2 ≤ steps
    → marks_by (drop k plan) steps ≡ suc (marks_by (drop (suc k) plan) (steps - (2 * round_size plan (suc k) + 2)))
marks_after [] k steps lt many = absurd (omega arith)
marks_after (r ∷ rs) zero steps lt many = rw (le-ltb steps (length r + 2) many) refl
marks_after (r ∷ rs) (suc k) steps lt many = marks_after rs k steps (omega arith) many

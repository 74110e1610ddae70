-- A table that counts how many transfers join each two disks.
use Rattle.mig_bounds.proofs.Common.{All, CountsPairs, List, Some, Transfer, ap, arith, at_most_one, between, cases_eq, count_by-le-length, div-mul-add, eq-eqb, eqb, false, get_or, get_or-set_other}
use Rattle.mig_bounds.proofs.Common.{get_or-set_same, get_or_from_slice_get, inl, inr, joins, length, length-set, length-take-le, mul-le-mul_right, nat_tests, ne_eqb, one, set, slice_get}
use Rattle.mig_bounds.proofs.Common.{slice_get_within, subst, sum_by_push, sym, take, take_more, true, ℕ, ◌&&◌, ◌*◌, ◌+◌, ◌/◌, ◌<◌, ◌||◌, ◌∙◌, ◌≡◌, ◌≢◌, ◌≤◌}

-- a cell is within the table, and it is the cell of one pair
pub cell_within : (n a b : ℕ) → a < n → b < n → a * n + b < n * n
cell_within n a b ha hb =
    let next : a + 1 ≤ n = omega (arith, ha) in
    omega (arith, hb, mul-le-mul_right n next)

same_row : (n a b l r : ℕ) → b < n → r < n → a * n + b ≡ l * n + r → a ≡ l
same_row n a b l r hb hr e = sym (div-mul-add a n b hb) ∙ ap (λ k. k / n) e ∙ div-mul-add l n r hr

cell_test : (n a b l r : ℕ) → b < n → r < n → eqb (a * n + b) (l * n + r) ≡ (eqb l a && eqb r b)
cell_test n a b l r hb hr = elim (cases_eq (a * n + b) (l * n + r)) [
  | inl e ↦ (let row = same_row n a b l r hb hr e in
      eq-eqb (a * n + b) (l * n + r) e ∙ sym (both l a r b (sym row) (omega (arith, e, ap (λ k. k * n) row))))
  | inr ne ↦ ne_eqb (a * n + b) (l * n + r) ne ∙ sym (neither l a r b (λ row column. ne (ap (λ k. k * n + b) (sym row) ∙ ap (λ k. l * n + k) (sym column))))
]
  where
    both : (l a r b : ℕ) → l ≡ a → r ≡ b → (eqb l a && eqb r b) ≡ true
    both l a r b e f = grind (arith, nat_tests)

    neither : (l a r b : ℕ) → (l ≡ a → r ≡ b → ⊥) → (eqb l a && eqb r b) ≡ false
    neither l a r b h = elim (cases_eq l a) [
      | inl e ↦ elim (cases_eq r b) [ inl f ↦ absurd (h e f) | inr f ↦ second l a r b f ]
      | inr e ↦ first l a r b e
    ]
      where
        second : (l a r b : ℕ) → r ≢ b → (eqb l a && eqb r b) ≡ false
        second l a r b f = grind (arith, nat_tests)

        first : (l a r b : ℕ) → l ≢ a → (eqb l a && eqb r b) ≡ false
        first l a r b f = grind (arith, nat_tests)

-- a cell that is one more
pub after_one : (xs : List ℕ) (j k : ℕ) → j < length xs → get_or (set xs j (get_or xs j 0 + 1)) k 0 ≡ get_or xs k 0 + one (eqb k j)
after_one xs j k h =
    let n = get_or xs j 0 + 1 in
    elim (cases_eq k j) [
      | inl e ↦ ap (λ i. get_or (set xs j n) i 0) e ∙ get_or-set_same xs j n 0 h ∙ ap (λ i. get_or xs i 0 + 1) (sym e) ∙ ap (λ m. get_or xs k 0 + m) (sym (ap one (eq-eqb k j e)))
      | inr ne ↦ get_or-set_other xs j k n 0 ne ∙ omega (arith, ap one (ne_eqb k j ne))
    ]

one_pair : (a b l r : ℕ) → l ≢ r → one ((eqb l a && eqb r b) || (eqb l b && eqb r a)) ≡ one (eqb l a && eqb r b) + one (eqb r a && eqb l b)
one_pair a b l r ne = grind (arith, nat_tests)

between_more : (transfers : List Transfer) (i a b : ℕ) (t : Transfer) → slice_get transfers i ≡ Some t → between a b (take (i + 1) transfers) ≡ between a b (take i transfers) + one (joins a b t)
between_more transfers i a b t at =
    ap (λ (xs : List Transfer). between a b xs) (take_more transfers i t (slice_get_within transfers i t at))
    ∙ sum_by_push (λ x. one (joins a b x)) (take i transfers) (get_or transfers i t)
    ∙ ap (λ (x : Transfer). between a b (take i transfers) + one (joins a b x)) (get_or_from_slice_get transfers i t t at)

-- one more in a cell
abbrev pub counted : List ℕ → ℕ → List ℕ
counted pairs cell = set pairs cell (get_or pairs cell 0 + 1)

-- one more transfer
pub CountsPairs-more : (n : ℕ) (transfers : List Transfer) (pairs : List ℕ) (i : ℕ) (t : Transfer) → slice_get transfers i ≡ Some t → t.leaves < n → t.reaches < n → t.leaves ≢ t.reaches
    → CountsPairs n (take i transfers) pairs → CountsPairs n (take (i + 1) transfers) (counted (counted pairs (t.leaves * n + t.reaches)) (t.reaches * n + t.leaves))
CountsPairs-more n transfers pairs i t at hl hr ne counts =
    let there = t.leaves * n + t.reaches in
    let back = t.reaches * n + t.leaves in
    let m = get_or pairs there 0 + 1 in
    let long = length-set pairs there m in
    let in_there = cell_within n t.leaves t.reaches hl hr in
    let in_back = cell_within n t.reaches t.leaves hr hl in
    record {
      len = length-set (counted pairs there) back (get_or (counted pairs there) back 0 + 1) ∙ long ∙ counts.len;
      pair = λ a b ha hb.
          after_one (counted pairs there) back (a * n + b) (omega (arith, in_back, long, counts.len))
          ∙ omega (
            arith,
            after_one pairs there (a * n + b) (omega (arith, in_there, counts.len)),
            counts.pair a b ha hb,
            between_more transfers i a b t at,
            one_pair a b t.leaves t.reaches ne,
            ap one (cell_test n a b t.leaves t.reaches hb hr),
            ap one (cell_test n a b t.reaches t.leaves hb hl),
          );
    }

-- a count is at most the number of transfers
pub cell_small : (n : ℕ) (transfers : List Transfer) (pairs : List ℕ) (i a b : ℕ) → i ≤ length transfers → a < n → b < n → CountsPairs n (take i transfers) pairs → get_or pairs (a * n + b) 0 ≤ i
cell_small n transfers pairs i a b h ha hb counts = omega (arith, counts.pair a b ha hb, count_by-le-length (joins a b) (take i transfers), length-take-le i transfers h)

pub next_small : (xs : List ℕ) (j k : ℕ) → j < length xs → get_or (counted xs j) k 0 ≤ get_or xs k 0 + 1
next_small xs j k h = omega (arith, after_one xs j k h, at_most_one (eqb k j))

-- the ends of a transfer are there
pub leaves_below : (n : ℕ) (transfers : List Transfer) (i : ℕ) (t : Transfer) → All (λ t. t.leaves < n) transfers → slice_get transfers i ≡ Some t → t.leaves < n
leaves_below n transfers i t all at = subst (λ (x : Transfer). x.leaves < n) (get_or_from_slice_get transfers i t t at) (all i t (slice_get_within transfers i t at))

pub reaches_below : (n : ℕ) (transfers : List Transfer) (i : ℕ) (t : Transfer) → All (λ t. t.reaches < n) transfers → slice_get transfers i ≡ Some t → t.reaches < n
reaches_below n transfers i t all at = subst (λ (x : Transfer). x.reaches < n) (get_or_from_slice_get transfers i t t at) (all i t (slice_get_within transfers i t at))

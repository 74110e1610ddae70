-- What is counted for each label: the limits of its disks, and the moves between them.
use Rattle.mig_bounds.proofs.Common.{AreInsides, AreLimitSums, Bool, List, MAX_LIMIT, Some, Transfers, Transfer, ap, arith, cases_eq, cond, count_by, count_by-le-length, eq-eqb, eqb, false, filter}
use Rattle.mig_bounds.proofs.Common.{get_or, get_or-set_other, get_or-set_same, get_or_from_slice_get, inl, inr, length, length-set, limit, limit_sum, ne_eqb, one, range_more, range_with_len}
use Rattle.mig_bounds.proofs.Common.{set, slice_get, slice_get_within, sum_by, sum_by-filter, sum_by_push, sym, take, take_more, true, ℕ, ◌+◌, ◌<◌, ◌∙◌, ◌≡◌, ◌≤◌}

-- a cell to which something was added
pub after_add : (xs : List ℕ) (j k n w : ℕ) → j < length xs → n ≡ get_or xs j 0 + w → get_or (set xs j n) k 0 ≡ get_or xs k 0 + cond (eqb j k) w 0
after_add xs j k n w h is = elim (cases_eq j k) [
  | inl e ↦ ap (λ i. get_or (set xs j n) i 0) (sym e) ∙ get_or-set_same xs j n 0 h ∙ is ∙ ap (λ i. get_or xs i 0 + w) e ∙ ap (λ b. get_or xs k 0 + cond b w 0) (sym (eq-eqb j k e))
  | inr ne ↦ get_or-set_other xs j k n 0 (λ e. ne (sym e)) ∙ omega (arith, ap {B = ℕ} (λ b. cond b w 0) (ne_eqb j k ne))
]

limit_sum-more : (graph : Transfers) (p : ℕ → Bool) (n : ℕ) → limit_sum graph (filter p (range_with_len 0 (n + 1))) ≡ limit_sum graph (filter p (range_with_len 0 n)) + cond (p n) (limit graph n) 0
limit_sum-more graph p n =
    let f : ℕ → ℕ = λ v. cond (p v) (limit graph v) 0 in
    sum_by-filter (limit graph) p (range_with_len 0 (n + 1)) ∙ ap (λ (xs : List ℕ). sum_by f xs) (range_more n) ∙ sum_by_push f (range_with_len 0 n) n ∙ ap (λ s. s + f n) (sym (sum_by-filter (limit graph) p (range_with_len 0 n)))

added_most : (b : Bool) (w : ℕ) → w ≤ MAX_LIMIT → cond b w 0 ≤ MAX_LIMIT
added_most true w h = h
added_most false w h = omega arith

-- one more disk
pub AreLimitSums-more : (graph : Transfers) (labels sums : List ℕ) (i n : ℕ) → get_or labels i 0 < length labels → limit graph i ≤ MAX_LIMIT → n ≡ get_or sums (get_or labels i 0) 0 + limit graph i → AreLimitSums graph labels i sums → AreLimitSums graph labels (i + 1) (set sums (get_or labels i 0) n)
AreLimitSums-more graph labels sums i n there most is before = record {
  len = length-set sums (get_or labels i 0) n ∙ before.len;
  sum = λ r h. omega (arith, added r, before.sum r h, limit_sum-more graph (λ v. eqb (get_or labels v 0) r) i);
  most = λ r h. omega (arith, added r, before.most r h, added_most (eqb (get_or labels i 0) r) (limit graph i) most);
}
  where
    added : (r : ℕ) → get_or (set sums (get_or labels i 0) n) r 0 ≡ get_or sums r 0 + cond (eqb (get_or labels i 0) r) (limit graph i) 0
    added r = after_add sums (get_or labels i 0) r n (limit graph i) (omega (arith, there, before.len)) is

-- one more move
pub AreInsides-more : (labels insides : List ℕ) (transfers : List Transfer) (i n : ℕ) (t : Transfer) → slice_get transfers i ≡ Some t → get_or labels t.leaves 0 < length labels → n ≡ get_or insides (get_or labels t.leaves 0) 0 + 1 → AreInsides labels (take i transfers) insides → AreInsides labels (take (i + 1) transfers) (set insides (get_or labels t.leaves 0) n)
AreInsides-more labels insides transfers i n t at there is before = record {
  len = length-set insides (get_or labels t.leaves 0) n ∙ before.len;
  count = λ r h. omega (arith, after_add insides (get_or labels t.leaves 0) r n 1 (omega (arith, there, before.len)) is, before.count r h, more r);
}
  where
    more : (r : ℕ) → count_by (λ s. eqb (get_or labels s.leaves 0) r) (take (i + 1) transfers) ≡ count_by (λ s. eqb (get_or labels s.leaves 0) r) (take i transfers) + one (eqb (get_or labels t.leaves 0) r)
    more r =
        ap (λ (xs : List Transfer). count_by (λ s. eqb (get_or labels s.leaves 0) r) xs) (take_more transfers i t (slice_get_within transfers i t at))
        ∙ sum_by_push (λ (s : Transfer). one (eqb (get_or labels s.leaves 0) r)) (take i transfers) (get_or transfers i t)
        ∙ ap (λ (s : Transfer). count_by (λ s. eqb (get_or labels s.leaves 0) r) (take i transfers) + one (eqb (get_or labels s.leaves 0) r)) (get_or_from_slice_get transfers i t t at)

-- a count is at most the number of transfers
pub inside_small : (labels insides : List ℕ) (transfers : List Transfer) (r : ℕ) → r < length labels → AreInsides labels transfers insides → get_or insides r 0 ≤ length transfers
inside_small labels insides transfers r h before = omega (arith, before.count r h, count_by-le-length (λ (s : Transfer). eqb (get_or labels s.leaves 0) r) transfers)

-- What the number of rounds that count says of the marks.
use Rattle.mig_base.proofs.Common.{Bool, Image, ap, arith, cond, cond-false, cond-true, count_of, false, get_or, get_or-range_with_len, is_armed, is_marked, length, length-range_with_len}
use Rattle.mig_base.proofs.Common.{prefix_len, prefix_len-le-length, prefix_len_is, prefix_len_passes, prefix_len_stops, range_with_len, subst, suc, sym, true, zero, ℕ, ◌+◌, ◌<◌, ◌∙◌, ◌≡◌, ◌≤◌}

-- the marks 1 to k are 1, and the next isn't
pub record AreMarked (rounds : ℕ) (image : Image) (k : ℕ) : Type 0 where
  pub most : k ≤ rounds
  pub each : (n : ℕ) → 1 ≤ n → n ≤ k → is_marked image n ≡ true
  pub next : k < rounds → is_marked image (suc k) ≡ false

module _ (rounds : ℕ) (image : Image) where
  number : (j : ℕ) → j < rounds → get_or (range_with_len 1 rounds) j 0 ≡ suc j
  number j lt = get_or-range_with_len 1 rounds j 0 lt ∙ (let e : 1 + j ≡ suc j = omega arith in e)

  long : length (range_with_len 1 rounds) ≡ rounds
  long = length-range_with_len 1 rounds

  pub marks_are : AreMarked rounds image (prefix_len (is_marked image) (range_with_len 1 rounds))
  marks_are = record {
    most = omega (arith, prefix_len-le-length (is_marked image) (range_with_len 1 rounds), long);
    each = λ n low high. at_each n low high;
    next = λ lt. sym (ap (is_marked image) (number (prefix_len (is_marked image) (range_with_len 1 rounds)) lt)) ∙ prefix_len_stops (is_marked image) (range_with_len 1 rounds) 0 (omega (arith, long));
  }
    where
      at_each : (n : ℕ) → 1 ≤ n → n ≤ prefix_len (is_marked image) (range_with_len 1 rounds) → is_marked image n ≡ true
      at_each zero low high = absurd (omega arith)
      at_each (suc j) low high =
          let most = prefix_len-le-length (is_marked image) (range_with_len 1 rounds) in
          sym (ap (is_marked image) (number j (omega (arith, long)))) ∙ prefix_len_passes (is_marked image) (range_with_len 1 rounds) j 0 (omega arith)

  pub count_least : (k : ℕ) → AreMarked rounds image k → prefix_len (is_marked image) (range_with_len 1 rounds) ≡ k
  count_least k are = prefix_len_is (is_marked image) (range_with_len 1 rounds) k 0 (omega (arith, are.most, long))
      (λ j lt. ap (is_marked image) (number j (omega (arith, are.most))) ∙ are.each (suc j) (omega arith) (omega arith))
      (λ lt. ap (is_marked image) (number k (omega (arith, long))) ∙ are.next (omega (arith, long)))

  -- where the gate is 1, so many rounds count as the marks say
  pub counted : is_armed image ≡ true → AreMarked rounds image (count_of rounds image)
  counted armed = subst (AreMarked rounds image) (sym (cond-true _ _ _ armed)) marks_are

  pub count_is : is_armed image ≡ true → (k : ℕ) → AreMarked rounds image k → count_of rounds image ≡ k
  count_is armed k are = cond-true _ _ _ armed ∙ count_least k are

  pub count_idle : is_armed image ≡ false → count_of rounds image ≡ 0
  count_idle idle = cond-false _ _ _ idle

  pub count_most : count_of rounds image ≤ rounds
  count_most = at (is_armed image)
    where
      at : (b : Bool) → (cond b (prefix_len (is_marked image) (range_with_len 1 rounds)) 0) ≤ rounds
      at true = omega (arith, marks_are.most)
      at false = omega arith

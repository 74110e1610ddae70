-- Sets of all numbers below another one, as they are made.
use Rattle.mig_board.proofs.Common.{AreFullSets, List, ap, arith, bit_at, bit_at_ones, bit_at_ones_above, cases_eq, cases_lt, div_ceil_times, get_or, get_or-replicate, get_or-set_other}
use Rattle.mig_board.proofs.Common.{get_or-set_same, inl, inr, length, length-replicate, length-set, mul-add-lt, mul_comm, replicate, same_from_place, set, sym, words_for, ℕ, ◌%◌, ◌*◌, ◌+◌, ◌-◌}
use Rattle.mig_board.proofs.Common.{◌/◌, ◌<◌, ◌^◌, ◌∙◌, ◌≡◌, ◌≢◌, ◌≤◌, ◌⊎◌}
use Rattle.mig_board.proofs.FreeSets.{bit_word, words_cover}

abbrev ones : ℕ
ones = 2 ^ 64 - 1

place_within : (v w sets each : ℕ) → v < sets → w < each → v * each + w < sets * each
place_within v w sets each hv hw = omega (arith, mul-add-lt v each w sets hv hw, mul_comm sets each)

-- the word of a set after the last whole one
pub rest_within : (n : ℕ) → n % 64 ≢ 0 → n / 64 < words_for n
rest_within n h = omega (arith, words_cover n, h)

-- In the first sets so many as `done` the last word has only the numbers below n. All other words have all numbers.
pub record AreCut (sets n done : ℕ) (words : List ℕ) : Type 0 where
  pub len : length words ≡ sets * words_for n
  pub cut : (v : ℕ) → v < done → get_or words (v * words_for n + n / 64) 0 ≡ 2 ^ (n % 64) - 1
  pub whole : (v w : ℕ) → v < sets → w < words_for n → (done ≤ v) ⊎ (w ≢ n / 64) → get_or words (v * words_for n + w) 0 ≡ ones

pub cut_start : (sets n : ℕ) (words : List ℕ) → words ≡ replicate (sets * words_for n) ones → AreCut sets n 0 words
cut_start sets n words is = grind (arith, length-replicate, get_or-replicate, place_within)

pub cut_more : (sets n done : ℕ) (words : List ℕ) → n % 64 ≢ 0 → done < sets → AreCut sets n done words → (i x : ℕ) → i ≡ done * words_for n + n / 64 → x ≡ 2 ^ (n % 64) - 1 → AreCut sets n (done + 1) (set words i x)
cut_more sets n done words some less a i x place value =
    record {
      len = length-set words i x ∙ a.len;
      cut = λ v h. elim (cases_eq v done) [
        | inl e ↦ ap (λ q. get_or (set words i x) q 0) (ap (λ q. q * words_for n + n / 64) e ∙ sym place) ∙ get_or-set_same words i x 0 within ∙ value
        | inr ne ↦ get_or-set_other words i (v * words_for n + n / 64) x 0 (differs v (n / 64) (rest_within n some) (λ h. ne h.0)) ∙ a.cut v (omega (arith, h, ne))
      ];
      whole = λ v w hv hw c.
          get_or-set_other words i (v * words_for n + w) x 0 (differs v w hw (λ h. elim c [ inl m ↦ omega (arith, m, h.0) | inr m ↦ m h.1 ])) ∙
          a.whole v w hv hw (elim c [ inl m ↦ inl (omega (arith, m)) | inr m ↦ inr m ]);
    }
  where
    within : i < length words
    within = omega (arith, place, a.len, place_within done (n / 64) sets (words_for n) less (rest_within n some))

    differs : (v w : ℕ) → w < words_for n → ((v ≡ done) × (w ≡ n / 64) → ⊥) → v * words_for n + w ≢ i
    differs v w hw ne e = (let r = same_from_place v w done (n / 64) (words_for n) hw (rest_within n some) (e ∙ place) in ne r)

-- a number of a set, by its word
bit_of : (n : ℕ) (words : List ℕ) (v k x : ℕ) → get_or words (v * words_for n + k / 64) 0 ≡ x → bit_at (get_or words ((v * words_for n * 64 + k) / 64) 0) ((v * words_for n * 64 + k) % 64) ≡ bit_at x (k % 64)
bit_of n words v k x read = grind (arith, bit_word)

pub AreFullSets-cut : (sets n : ℕ) (words : List ℕ) → n % 64 ≢ 0 → AreCut sets n sets words → AreFullSets sets n words
AreFullSets-cut sets n words some a =
    record {
      len = a.len;
      bit = λ v k hv hk. elim (cases_eq (k / 64) (n / 64)) [
        | inl e ↦
            (let read : bit_at (get_or words ((v * words_for n * 64 + k) / 64) 0) ((v * words_for n * 64 + k) % 64) ≡ bit_at (2 ^ (n % 64) - 1) (k % 64) = bit_of n words v k (2 ^ (n % 64) - 1) (ap (λ q. get_or words (v * words_for n + q) 0) e ∙ a.cut v hv) in
            elim (cases_lt (k % 64) (n % 64)) [
              | inl lt ↦ (λ h. omega (arith, e, lt), λ h. read ∙ bit_at_ones (n % 64) (k % 64) lt)
              | inr ge ↦ (λ h. absurd (omega (arith, sym h ∙ read ∙ bit_at_ones_above (n % 64) (k % 64) ge)), λ h. absurd (omega (arith, e, ge, h)))
            ])
        | inr ne ↦ (
          (λ h. omega (arith, ne, hk, below)),
          (λ h. bit_of n words v k ones (a.whole v (k / 64) hv (omega (arith, hk)) (inr ne)) ∙ bit_at_ones 64 (k % 64) (omega arith)),
        )
      ];
    }
  where
    -- the words reach no further than one word past n
    below : words_for n ≤ n / 64 + 1
    below = omega (arith, (div_ceil_times n 64 (omega arith)).1)

-- where n fills its words
pub AreFullSets-whole : (sets n : ℕ) (words : List ℕ) → n % 64 ≡ 0 → words ≡ replicate (sets * words_for n) ones → AreFullSets sets n words
AreFullSets-whole sets n words none is =
    record {
      len = start.len;
      bit = λ v k hv hk. (
        (λ h. omega (arith, hk, none, (div_ceil_times n 64 (omega arith)).1)),
        (λ h. bit_of n words v k ones (start.whole v (k / 64) hv (omega (arith, hk)) (inl (omega arith))) ∙ bit_at_ones 64 (k % 64) (omega arith)),
      );
    }
  where
    start : AreCut sets n 0 words
    start = cut_start sets n words is

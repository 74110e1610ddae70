-- Sets of numbers by words: one bit, and the lowest one.
use Rattle.mig_board.proofs.Common.{HasBit, IsFirstBit, IsFirstCommonBit, List, TurnsBit, arith, bit_and, bit_at, bit_at-lt, bit_at-pow_other}
use Rattle.mig_board.proofs.Common.{bit_at-pow_same, bit_at-trailing_zeros, bit_at-zero, bit_at_and, bit_at_mask_below, bit_at_mask_inside}
use Rattle.mig_board.proofs.Common.{bit_at_xor, bit_xor, cases_eq, cases_lt, get_or, get_or-set_other, get_or-set_same, inl, inr, length, length-set}
use Rattle.mig_board.proofs.Common.{one_shl, ones_shl, set, trailing_zeros, w64, ℕ, ◌%◌, ◌*◌, ◌+◌, ◌-◌, ◌/◌, ◌<◌, ◌^◌, ◌↔◌, ◌≡◌, ◌≢◌, ◌≤◌}

-- ---- one word

pub both_has : (a b i : ℕ) → (bit_at (bit_and a b) i ≡ 1) ↔ ((bit_at a i ≡ 1) × (bit_at b i ≡ 1))
both_has a b i = grind (arith, bit_at-lt, bit_at_and)

-- the bits from a place on
pub high_has : (word k i : ℕ) → k < 64 → i < 64 → (bit_at (bit_and word ((2 ^ 64 - 1) * 2 ^ k % 2 ^ 64)) i ≡ 1) ↔ ((k ≤ i) × (bit_at word i ≡ 1))
high_has word k i hk hi =
    let r = both_has word ((2 ^ 64 - 1) * 2 ^ k % 2 ^ 64) i in
    let mask : (2 ^ 64 - 1) * 2 ^ k % 2 ^ 64 ≡ 2 ^ 64 - 2 ^ k = ones_shl 64 k (omega arith) in
    elim (cases_lt i k) [
      | inr le ↦ (λ h. (le, (r.0 h).0), λ h. r.1 (h.1, rw mask (bit_at_mask_inside k 64 i le hi)))
      | inl lt ↦ (λ h. absurd (omega (arith, rw mask at (r.0 h).1, bit_at_mask_below k 64 i lt)), λ h. absurd (omega (arith, h.0)))
    ]

-- a bit that is turned
pub turned_here : (word k : ℕ) → k < 64 → (bit_at (bit_xor word (1 * 2 ^ k % 2 ^ 64)) k ≡ 1) ↔ ((bit_at word k ≡ 1) → ⊥)
turned_here word k hk =
    let e = rw (bit_at-pow_same k) at (bit_at_xor word (2 ^ k) k) in
    rw (one_shl k 64 hk) (λ h m. omega (arith, h, m, e), λ h. omega (arith, h, e, bit_at-lt word k))

pub turned_there : (word k i : ℕ) → k < 64 → i ≢ k → bit_at (bit_xor word (1 * 2 ^ k % 2 ^ 64)) i ≡ bit_at word i
turned_there word k i hk ne =
    let e = rw (bit_at-pow_other k i ne) at (bit_at_xor word (2 ^ k) i) in
    rw (one_shl k 64 hk) (omega (arith, e, bit_at-lt word i))

-- ---- a changed bit

pub TurnsBit-from : (words : List ℕ) (k : ℕ) → k / 64 < length words
    → TurnsBit words (set words (k / 64) (bit_xor (get_or words (k / 64) 0) (1 * 2 ^ (k % 64) % 2 ^ 64))) k
TurnsBit-from words k within = grind (arith, length-set, get_or-set_same, turned_here, cases_eq, turned_there, get_or-set_other)

-- ---- the lowest bit

-- no number of `from` to n, n left out, is in the set
abbrev pub HasNoBitBelow : List ℕ → ℕ → ℕ → Type 0
HasNoBitBelow words from n = (l : ℕ) → from ≤ l → l < n → HasBit words l → ⊥

-- what is left of a word: its bits for numbers from `from` on
abbrev pub IsRestOf : List ℕ → ℕ → ℕ → ℕ → Type 0
IsRestOf words from at rest = (i : ℕ) → i < 64 → (bit_at rest i ≡ 1) ↔ ((from ≤ at * 64 + i) × (bit_at (get_or words at 0) i ≡ 1))

abbrev pub HasNoCommonBelow : List ℕ → List ℕ → ℕ → Type 0
HasNoCommonBelow one two n = (l : ℕ) → l < n → HasBit one l → HasBit two l → ⊥

-- Where the bits of a word tell which numbers have P, from at * 64 on, its lowest bit tells the first of them.
lowest : (P : ℕ → Type 0) (at word : ℕ) → ((l : ℕ) → l / 64 ≡ at → (bit_at word (l % 64) ≡ 1) ↔ P l) → word ≢ 0 → word < 2 ^ 64
    → P (at * 64 + trailing_zeros w64 word) × ((l : ℕ) → at * 64 ≤ l → l < at * 64 + trailing_zeros w64 word → P l → ⊥)
lowest P at word is some fits =
    let low = bit_at-trailing_zeros w64 word (omega arith) fits in
    let t : ℕ = trailing_zeros w64 word in
    let bit : (at * 64 + t) % 64 ≡ t = omega (arith, low.0) in (
      (is (at * 64 + t) (omega (arith, low.0))).0 (rw bit low.1),
      λ l m h p. omega (arith, (is l (omega (arith, m, h, low.0))).1 p, low.2 (l % 64) (omega (arith, m, h, low.0))),
    )

pub first_in_word : (words : List ℕ) (from at rest : ℕ) → HasNoBitBelow words from (at * 64) → IsRestOf words from at rest → rest ≢ 0 → rest < 2 ^ 64
    → IsFirstBit words from (at * 64 + trailing_zeros w64 rest)
first_in_word words from at rest below is some fits =
    let r = lowest (λ l. (from ≤ l) × HasBit words l) at rest told some fits in
    record {
      has = r.0.1;
      from_on = r.0.0;
      least = λ l m h b. elim (cases_lt l (at * 64)) [ inl lt ↦ below l m lt b | inr ge ↦ r.1 l ge h (m, b) ];
    }
  where
    told : (l : ℕ) → l / 64 ≡ at → (bit_at rest (l % 64) ≡ 1) ↔ ((from ≤ l) × HasBit words l)
    told l e = let same : at * 64 + l % 64 ≡ l = omega arith in rw e (rw same at (is (l % 64) (omega arith)))

-- the same of two sets, where the word has the bits of both
pub common_in_word : (one two : List ℕ) (at : ℕ) → HasNoCommonBelow one two (at * 64) → bit_and (get_or one at 0) (get_or two at 0) ≢ 0
    → bit_and (get_or one at 0) (get_or two at 0) < 2 ^ 64
    → IsFirstCommonBit one two (at * 64 + trailing_zeros w64 (bit_and (get_or one at 0) (get_or two at 0)))
common_in_word one two at below some fits =
    let r = lowest (λ l. HasBit one l × HasBit two l) at (bit_and (get_or one at 0) (get_or two at 0)) told some fits in
    record {
      first = r.0.0;
      second = r.0.1;
      least = λ l h b c. elim (cases_lt l (at * 64)) [ inl lt ↦ below l lt b c | inr ge ↦ r.1 l ge h (b, c) ];
    }
  where
    told : (l : ℕ) → l / 64 ≡ at → (bit_at (bit_and (get_or one at 0) (get_or two at 0)) (l % 64) ≡ 1) ↔ (HasBit one l × HasBit two l)
    told l e = rw e (both_has (get_or one at 0) (get_or two at 0) (l % 64))

pub common_more : (one two : List ℕ) (at : ℕ) → HasNoCommonBelow one two (at * 64) → bit_and (get_or one at 0) (get_or two at 0) ≡ 0
    → HasNoCommonBelow one two ((at + 1) * 64)
common_more one two at below none l h b c =
    elim (cases_lt l (at * 64)) [
      | inl lt ↦ below l lt b c
      | inr ge ↦
          let here : l / 64 ≡ at = omega arith in
          let r = (both_has (get_or one at 0) (get_or two at 0) (l % 64)).1 (rw here at b, rw here at c) in
          omega (arith, rw none at r, bit_at-zero (l % 64))
    ]

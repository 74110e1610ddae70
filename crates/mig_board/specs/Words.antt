-- Sets of numbers, 64 to a word.
use Rattle.std.specs.Prelude.{◌≡◌, ◌≢◌, ℕ, ◌<◌, ◌≤◌, ◌+◌, ◌*◌, ◌/◌, ◌%◌, ◌↔◌, List, length, slice_index}
use Rattle.std.specs.Int.{bit_at, div_ceil}

-- how many words have a bit for each number below n
abbrev pub words_for : ℕ → ℕ
words_for n = div_ceil n 64

-- k is in the set: bit k % 64 of word k / 64 is 1
abbrev pub HasBit : List ℕ → ℕ → Type 0
HasBit words k = bit_at (slice_index words (k / 64)) (k % 64) ≡ 1

-- no number from `from` on is in the set
abbrev pub HasNoBitFrom : List ℕ → ℕ → Type 0
HasNoBitFrom words from = (l : ℕ) → from ≤ l → HasBit words l → ⊥

-- k is the least number from `from` on that is in the set
pub record IsFirstBit (words : List ℕ) (from k : ℕ) : Type 0 where
  pub has : HasBit words k
  pub from_on : from ≤ k
  pub least : (l : ℕ) → from ≤ l → l < k → HasBit words l → ⊥

-- no number is in both sets
abbrev pub HasNoCommonBit : List ℕ → List ℕ → Type 0
HasNoCommonBit one two = (l : ℕ) → HasBit one l → HasBit two l → ⊥

-- k is the least number in both sets
pub record IsFirstCommonBit (one two : List ℕ) (k : ℕ) : Type 0 where
  pub first : HasBit one k
  pub second : HasBit two k
  pub least : (l : ℕ) → l < k → HasBit one l → HasBit two l → ⊥

-- k came into the set or left it, and nothing else changed
pub record TurnsBit (old new : List ℕ) (k : ℕ) : Type 0 where
  pub len : length new ≡ length old
  pub here : HasBit new k ↔ (HasBit old k → ⊥)
  pub others : (l : ℕ) → l ≢ k → HasBit new l ↔ HasBit old l

-- one after the other so many sets, each of all numbers below n
pub record AreFullSets (sets n : ℕ) (words : List ℕ) : Type 0 where
  pub len : length words ≡ sets * words_for n
  pub bit : (v k : ℕ) → v < sets → k < words_for n * 64 → HasBit words (v * words_for n * 64 + k) ↔ (k < n)

-- Marks of the items that a round has shifted so far.
use Rattle.mig_check.proofs.Common.{All, List, Shift, get_or, length, shift_at, ℕ, ◌<◌, ◌≡◌, ◌≢◌, ◌≤◌}

pub record Marks (seen : List ℕ) (round : List Shift) (i n : ℕ) : Type 0 where
  pub later : All (λ m. m ≤ n) seen
  pub marked : (j : ℕ) → j < i → get_or seen (shift_at round j).item.0 0 ≡ n
  pub known : (k : ℕ) → k < length seen → get_or seen k 0 ≡ n → (j : ℕ) × (j < i) × ((shift_at round j).item.0 ≡ k)
  pub apart : (j k : ℕ) → j < k → k < i → (shift_at round j).item.0 ≢ (shift_at round k).item.0

-- Marks that are read one by one.
use Rattle.mig_journal.proofs.Common.{Bool, IfSome, Image, IsMark, IsSome, List, Mark, None, Option, Some, Tells, ap, arith, cases_eq, count_least, false, inl, inr, is_marked, is_one, prefix_len}
use Rattle.mig_journal.proofs.Common.{range_with_len, refl, subst, suc, sym, true, ℕ, ◌+◌, ◌<◌, ◌∙◌, ◌≡◌, ◌≤◌, ◌⊎◌}

-- what was read of a mark that is told
pub of_told : (cell : Option (List ℕ)) (P : Type 0) → IsSome cell → IfSome cell (λ bytes. P) → P
of_told (Some bytes) P told is = is
of_told None P told is = cc

module _ (rounds k : ℕ) (first now : Image) (same : (n : ℕ) → first (Mark n) ≡ now (Mark n)) (yes : Bool) (is : IfSome (now (Mark (k + 1))) (λ bytes. yes ≡ is_marked now (k + 1))) where
  read : k < rounds → Tells (IsMark rounds) first → yes ≡ is_marked first (k + 1)
  read lt told = of_told (first (Mark (k + 1))) (yes ≡ is_marked first (k + 1)) (told (Mark (k + 1)) (k + 1, omega arith, omega arith, refl))
      (subst (λ (cell : Option (List ℕ)). IfSome cell (λ bytes. yes ≡ is_one cell)) (sym (same (k + 1))) is)

  -- one mark more
  pub one_more : k < rounds → yes ≡ true → (Tells (IsMark rounds) first → (m : ℕ) → 1 ≤ m → m ≤ k → is_marked first m ≡ true) → Tells (IsMark rounds) first → (m : ℕ) → 1 ≤ m → m ≤ k + 1 → is_marked first m ≡ true
  one_more lt set before told m low high = at (cases_eq m (k + 1))
    where
      at : (m ≡ k + 1) ⊎ (m ≡ k + 1 → ⊥) → is_marked first m ≡ true
      at (inl last) = ap (is_marked first) last ∙ sym (read lt told) ∙ set
      at (inr other) = before told m low (omega arith)

  -- the first that isn't 1
  pub stops : k < rounds → yes ≡ false → (Tells (IsMark rounds) first → (m : ℕ) → 1 ≤ m → m ≤ k → is_marked first m ≡ true) → Tells (IsMark rounds) first → k ≡ prefix_len (is_marked first) (range_with_len 1 rounds)
  stops lt unset before told = sym (count_least rounds first k (record {
    most = omega arith;
    each = before told;
    next = λ more. ap (is_marked first) (let e : suc k ≡ k + 1 = omega arith in e) ∙ sym (read lt told) ∙ unset;
  }))

-- all marks are 1
pub all_set : (rounds : ℕ) (first : Image) → ((m : ℕ) → 1 ≤ m → m ≤ rounds → is_marked first m ≡ true) → rounds ≡ prefix_len (is_marked first) (range_with_len 1 rounds)
all_set rounds first each = sym (count_least rounds first rounds (record { most = omega arith; each = each; next = λ more. absurd (omega arith) }))

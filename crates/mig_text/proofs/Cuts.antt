-- Where a text is cut.
use Rattle.mig_text.proofs.Common.{Bool, Bor, List, None, Option, Some, [], ap, arith, cond, cond_some, drop, fails_before_first, false, is_some, length, length-drop, length-slice_split}
use Rattle.mig_text.proofs.Common.{nat_tests, not, option_map_or, position, position_or_len, refl, slice_split, slice_split_first, slice_split_none, sym, take, take_all, true, ℕ, ◌+◌, ◌-◌, ◌<◌}
use Rattle.mig_text.proofs.Common.{◌==◌, ◌∙◌, ◌∷◌, ◌≡◌, ◌≤◌}

module _ (p : ℕ → Bool) (xs : List ℕ) where
  pub split_at : (i : ℕ) → position p xs ≡ Some i → slice_split p xs ≡ take i xs ∷ slice_split p (take (length xs - (i + 1)) (drop (i + 1) xs))
  split_at i e =
      let q = cond_some _ (position_or_len p xs) i e in
      let lt : position_or_len p xs < length xs = grind (arith, nat_tests) in
      let same : position_or_len p xs ≡ i = q.1 in
      let whole : take (length xs - (i + 1)) (drop (i + 1) xs) ≡ drop (i + 1) xs = take_all _ _ (omega (arith, length-drop (i + 1) xs)) in
      slice_split_first p xs 0 lt ∙ (λ k. take (same k) xs ∷ slice_split p (drop (same k + 1) xs)) ∙ ap (λ t. take i xs ∷ slice_split p t) (sym whole)

  past : (b : Bool) (x : ℕ) → cond b (Some x) None ≡ None → b ≡ false
  past true x e = cc
  past false x e = refl

  pub split_none : position p xs ≡ None → slice_split p xs ≡ xs ∷ []
  split_none e =
      let q = past _ (position_or_len p xs) e in
      let ge : length xs ≤ position_or_len p xs = grind (arith, nat_tests) in
      slice_split_none p xs (λ k d lt. fails_before_first p xs k d (omega arith))

-- the parts of a text that is left are never none
pub is_done : (at : ℕ) (rest : Option (Bor (List ℕ))) (r : Bool) → is_some rest ≡ not r → r ≡ (length (option_map_or (λ x. slice_split (λ b. b == at) x.now) rest []) == 0)
is_done at None r e = grind (arith, nat_tests)
is_done at (Some x) r e = grind (arith, nat_tests, length-slice_split (λ b. b == at) x.now)

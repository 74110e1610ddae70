-- Sets of disks.
use Rattle.mig_files.proofs.Common.{Bool, Contains, Contains-append_right, Contains-from_any, List, MatchBool, [], arith, cond, false, false_from_ne_true, false≢true, if◌then◌else◌, insert_key}
use Rattle.mig_files.proofs.Common.{length, list_any, list_any-from_Contains, nat_eq, nat_list_eq_equiv, pointwise, refl, same_text, sym, true, ℕ, ◌++◌, ◌+◌, ◌∙◌, ◌∷◌, ◌≡◌, ◌≤◌}

abbrev same : List ℕ → List ℕ → Bool
same = pointwise nat_eq

pub any_is : (names : List (List ℕ)) (n : List ℕ) (r : Bool) → r ≡ list_any (same n) names → MatchBool r (Contains names n) (¬ (Contains names n))
any_is names n true is = Contains-from_any (λ x y t. same_text x y (sym t)) n names (sym is)
any_is names n false is = λ has. false≢true (is ∙ list_any-from_Contains nat_list_eq_equiv n names has)

pub inserted : (names : List (List ℕ)) (n : List ℕ) → Contains (insert_key same names n) n
inserted names n = at (list_any (same n) names) refl
  where
    at : (b : Bool) → b ≡ list_any (same n) names → Contains (cond b names (names ++ n ∷ [])) n
    at true is = Contains-from_any (λ x y t. same_text x y (sym t)) n names (sym is)
    at false is = Contains-append_right names (n ∷ []) n (0, omega arith, refl)

-- the others stay where one is taken out
pub removed_kept : (old new : List (List ℕ)) (n p : List ℕ) → (same n p ≡ false → list_any (same p) new ≡ list_any (same p) old) → ¬ (p ≡ n) → Contains old p → Contains new p
removed_kept old new n p others out has =
    let apart : same n p ≡ false = false_from_ne_true _ (λ is. out (sym (same_text n p (sym is)))) in
    Contains-from_any (λ x y t. same_text x y (sym t)) p new (others apart ∙ list_any-from_Contains nat_list_eq_equiv p old has)

pub shorter : (old new : List (List ℕ)) (n : List ℕ) (r : Bool) → r ≡ list_any (same n) old → length new + (if r then 1 else 0) ≡ length old → Contains old n
    → length new + 1 ≤ length old
shorter old new n true is len has = omega (arith, len)
shorter old new n false is len has = absurd (false≢true (is ∙ list_any-from_Contains nat_list_eq_equiv n old has))

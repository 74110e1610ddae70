-- Lists of numbers in increasing order are told by what they have.
use Rattle.mig_bounds.proofs.Common.{All, All-head, All-tail, AllPairs, Bool, List, [], ap, arith, cases_eq, eq-eqb, eqb, eqb-true, false, false≢true, has, inl, inr, ne_eqb, refl, subst, suc}
use Rattle.mig_bounds.proofs.Common.{sym, true, zero, ℕ, ◌<◌, ◌||◌, ◌∙◌, ◌∷◌, ◌≡◌, ◌≤◌}

-- what holds for each element holds for one that the list has
pub has_all : (P : ℕ → Type 0) (xs : List ℕ) (v : ℕ) → All P xs → has xs v ≡ true → P v
has_all P [] v all h = absurd (false≢true h)
has_all P (x ∷ xs) v all h = by_head (eqb x v) refl (has_all P xs v (All-tail P x xs all))
  where
    rest : (b : Bool) → b ≡ false → (b || has xs v) ≡ true → has xs v ≡ true
    rest true e t = absurd (false≢true (sym e))
    rest false e t = t

    by_head : (b : Bool) → eqb x v ≡ b → (has xs v ≡ true → P v) → P v
    by_head true e others = subst P (eqb-true x v e) (All-head P x xs all)
    by_head false e others = others (rest (eqb x v) e h)

pub has_head : (x : ℕ) (xs : List ℕ) → has (x ∷ xs) x ≡ true
has_head x xs = rw (eq-eqb x x refl) refl

-- the first is the least
pub first-le : (x : ℕ) (xs : List ℕ) (v : ℕ) → AllPairs (λ a b. a < b) (x ∷ xs) → has (x ∷ xs) v ≡ true → x ≤ v
first-le x xs v pairs h = has_all (λ w. x ≤ w) (x ∷ xs) v (from_first x xs pairs) h
  where
    from_first : (x : ℕ) (xs : List ℕ) → AllPairs (λ a b. a < b) (x ∷ xs) → All (λ w. x ≤ w) (x ∷ xs)
    from_first x xs pairs zero d lt = omega arith
    from_first x xs pairs (suc k) d lt = omega (arith, pairs zero (suc k) d (omega arith) lt)

-- the others don't have it
not_again : (x : ℕ) (xs : List ℕ) → AllPairs (λ a b. a < b) (x ∷ xs) → has xs x ≡ false
not_again x xs pairs = by_test (has xs x) refl
  where
    by_test : (b : Bool) → has xs x ≡ b → has xs x ≡ false
    by_test true e = absurd (omega (arith, has_all (λ w. x < w) xs x (λ k d h. pairs zero (suc k) d (omega arith) (omega (arith, h))) e))
    by_test false e = e

pairs_tail : (x : ℕ) (xs : List ℕ) → AllPairs (λ a b. a < b) (x ∷ xs) → AllPairs (λ a b. a < b) xs
pairs_tail x xs pairs i j d l h = pairs (suc i) (suc j) d (omega (arith, l)) (omega (arith, h))

-- two lists that have the same are the same
pub same_increasing : (xs ys : List ℕ) → AllPairs (λ a b. a < b) xs → AllPairs (λ a b. a < b) ys → ((v : ℕ) → has xs v ≡ has ys v) → xs ≡ ys
same_increasing [] [] p q h = refl
same_increasing [] (y ∷ ys) p q h = absurd (false≢true (h y ∙ has_head y ys))
same_increasing (x ∷ xs) [] p q h = absurd (false≢true (sym (h x) ∙ has_head x xs))
same_increasing (x ∷ xs) (y ∷ ys) p q h =
    let e : x ≡ y = omega (arith, first-le x xs y p (h y ∙ has_head y ys), first-le y ys x q (sym (h x) ∙ has_head x xs)) in
    ap (λ (z : ℕ). z ∷ xs) e ∙ ap (λ (zs : List ℕ). y ∷ zs) (same_increasing xs ys (pairs_tail x xs p) (pairs_tail y ys q) (tails e))
  where
    others : (b c d e : Bool) → b ≡ false → c ≡ false → (b || d) ≡ (c || e) → d ≡ e
    others true c d e f g h = absurd (false≢true (sym f))
    others false true d e f g h = absurd (false≢true (sym g))
    others false false d e f g h = h

    tails : x ≡ y → (v : ℕ) → has xs v ≡ has ys v
    tails same v = elim (cases_eq x v) [
      | inl at ↦ ap (has xs) (sym at) ∙ not_again x xs p ∙ sym (not_again y ys q) ∙ ap (has ys) (sym same ∙ at)
      | inr ne ↦ others (eqb x v) (eqb y v) (has xs v) (has ys v) (ne_eqb x v ne) (ne_eqb y v (λ at. ne (same ∙ at))) (h v)
    ]

-- Lists by their elements.
use Rattle.mig_numbers.proofs.Common.{All, AllPairs, List, [], ap, arith, get_or, get_or-map, length, length-map, map, map-append, range_more}
use Rattle.mig_numbers.proofs.Common.{range_with_len, refl, subst, sym, take, take_more, ℕ, ◌++◌, ◌+◌, ◌<◌, ◌∙◌, ◌∷◌, ◌≡◌}

-- what is so of each element of a list is so of the list that is made of it, and the same of two
module _ {A X : Type 0} (f : A → X) (xs : List A) (z : A) where
  of : (i : ℕ) (d : X) → i < length (map f xs) → get_or (map f xs) i d ≡ f (get_or xs i z)
  of i d lt = get_or-map f xs i z d (omega (arith, length-map xs f, lt))

  pub all_in : (P : X → Type 0) → ((i : ℕ) → i < length xs → P (f (get_or xs i z))) → All P (map f xs)
  all_in P h i d lt = subst P (sym (of i d lt)) (h i (omega (arith, length-map xs f, lt)))

  pub pairs_in : (R : X → X → Type 0) → ((i j : ℕ) → i < j → j < length xs → R (f (get_or xs i z)) (f (get_or xs j z))) → AllPairs R (map f xs)
  pairs_in R h i j d lt within =
      let below : j < length xs = omega (arith, length-map xs f, within) in
      subst (λ x. R x (get_or (map f xs) j d)) (sym (of i d (omega (arith, lt, within)))) (subst (R (f (get_or xs i z))) (sym (of j d within)) (h i j lt below))

-- so many elements, and one more
pub next_taken : {X : Type 0} (xs : List X) (k : ℕ) (x : X) → k < length xs → x ≡ get_or xs k x → take (k + 1) xs ≡ take k xs ++ x ∷ []
next_taken xs k x lt e = take_more xs k x lt ∙ ap (λ z. take k xs ++ z ∷ []) (sym e)

pub next_made : {X : Type 0} (f : ℕ → X) (k : ℕ) (made : List X) → made ≡ map f (range_with_len 0 k)
    → made ++ f k ∷ [] ≡ map f (range_with_len 0 (k + 1))
next_made f k made e = ap (λ xs. xs ++ f k ∷ []) e ∙ sym (ap (map f) (range_more k) ∙ map-append f (range_with_len 0 k) (k ∷ []))

pub map_map : {X Y Z : Type 0} (f : Y → Z) (g : X → Y) (xs : List X) → map f (map g xs) ≡ map (λ x. f (g x)) xs
map_map f g [] = refl
map_map f g (x ∷ xs) = ap (λ ys. f (g x) ∷ ys) (map_map f g xs)

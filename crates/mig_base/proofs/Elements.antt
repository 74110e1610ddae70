-- Lists by their elements.
use Rattle.mig_base.proofs.Common.{All, All-head, All-tail, List, Some, [], add-one, ap, arith, get_or, get_or-range_with_len, length, map, map-append, range_with_len, refl, set, slice_get, suc}
use Rattle.mig_base.proofs.Common.{zero, ℕ, ◌++◌, ◌+◌, ◌<◌, ◌∙◌, ◌∷◌, ◌≡◌, ◌≢◌}

-- numbers in a row, and one more
pub in_range : (n k d : ℕ) → k < n → get_or (range_with_len 0 n) k d ≡ k
in_range n k d h = omega (arith, get_or-range_with_len 0 n k d h)

pub range_next : (a n j : ℕ) → a + n ≡ j → range_with_len a (suc n) ≡ range_with_len a n ++ j ∷ []
range_next a zero j e = let same : a ≡ j = omega arith in ap (λ x. x ∷ []) same
range_next a (suc n) j e = ap (λ (xs : List ℕ). a ∷ xs) (range_next (a + 1) n j (omega arith))

pub range_more : (n : ℕ) → range_with_len 0 (n + 1) ≡ range_with_len 0 n ++ n ∷ []
range_more n = ap (range_with_len 0) (add-one n) ∙ range_next 0 n n (omega arith)

-- so many more
pub range_append : (a m n : ℕ) → range_with_len a (m + n) ≡ range_with_len a m ++ range_with_len (a + m) n
range_append a zero n =
    let len : 0 + n ≡ n = omega arith in
    let from : a ≡ a + 0 = omega arith in
    ap (range_with_len a) len ∙ ap (λ b. range_with_len b n) from
range_append a (suc m) n =
    let len : suc m + n ≡ suc (m + n) = omega arith in
    let from : a + 1 + m ≡ a + suc m = omega arith in
    ap (range_with_len a) len ∙ ap (λ xs. a ∷ xs) (range_append (a + 1) m n) ∙ ap (λ b. a ∷ (range_with_len (a + 1) m ++ range_with_len b n)) from

pub map_more : {X : Type 0} (f : ℕ → X) (a m n : ℕ) → map f (range_with_len a (m + n)) ≡ map f (range_with_len a m) ++ map f (range_with_len (a + m) n)
map_more f a m n = ap (map f) (range_append a m n) ∙ map-append f (range_with_len a m) (range_with_len (a + m) n)

-- one element and the others after a write
pub slice_get-set_same : {A : Type 0} (xs : List A) (i : ℕ) (y : A) → i < length xs → slice_get (set xs i y) i ≡ Some y
slice_get-set_same [] i y h = absurd (omega arith)
slice_get-set_same (x ∷ xs) zero y h = refl
slice_get-set_same (x ∷ xs) (suc i) y h = slice_get-set_same xs i y (omega arith)

pub slice_get-set_other : {A : Type 0} (xs : List A) (i j : ℕ) (y : A) → j ≢ i → slice_get (set xs i y) j ≡ slice_get xs j
slice_get-set_other [] i j y h = refl
slice_get-set_other (x ∷ xs) zero zero y h = absurd (h refl)
slice_get-set_other (x ∷ xs) zero (suc j) y h = refl
slice_get-set_other (x ∷ xs) (suc i) zero y h = refl
slice_get-set_other (x ∷ xs) (suc i) (suc j) y h = slice_get-set_other xs i j y (λ e. h (ap suc e))

pub map_same : {X Y : Type 0} (f g : X → Y) (xs : List X) → All (λ x. f x ≡ g x) xs → map f xs ≡ map g xs
map_same f g [] h = refl
map_same {X} {Y} f g (x ∷ xs) h = ap (λ (y : Y). y ∷ map f xs) (All-head (λ z. f z ≡ g z) x xs h) ∙ ap (λ (ys : List Y). g x ∷ ys) (map_same f g xs (All-tail (λ z. f z ≡ g z) x xs h))

pub one_all : {X : Type 0} (P : X → Type 0) (x : X) → P x → All P (x ∷ [])
one_all P x h zero d lt = h
one_all P x h (suc k) d lt = absurd (omega (arith, lt))

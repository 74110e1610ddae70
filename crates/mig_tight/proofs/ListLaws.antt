-- Lists of different elements, and counts of lists side by side.
use Rattle.mig_tight.proofs.Common.{AllPairs, AreDifferent, Bool, Contains, List, [], arith, cases_eq, count_by, false, false≢true, get_or}
use Rattle.mig_tight.proofs.Common.{get_or-set_other, get_or-set_same, get_or_default, length, length-set, one, refl, same_place, set, suc}
use Rattle.mig_tight.proofs.Common.{sum_by-cons, sym, true, ℕ, ◌+◌, ◌<◌, ◌∙◌, ◌∷◌, ◌≡◌, ◌≢◌, ◌≤◌}

pub pairs_one : {X : Type 0} (R : X → X → Type 0) (x : X) → AllPairs R (x ∷ [])
pairs_one R x i j d l m = absurd (omega arith)

-- two places of a list of different elements hold different elements
pub place_of : {X : Type 0} (xs : List X) (d : X) (i j : ℕ) → AreDifferent xs → i < length xs → j < length xs → get_or xs i d ≡ get_or xs j d → i ≡ j
place_of {X} xs d i j apart hi hj same = same_place (λ (x : X). x) xs d i j apart hi hj same

-- an element that is put into a list of others
module _ {X : Type 0} (xs : List X) (k : ℕ) (x : X) (apart : AreDifferent xs) (fresh : Contains xs x → ⊥) where
  at_other : (i : ℕ) (d : X) → i < length xs → x ≡ get_or xs i d → ⊥
  at_other i d l e = fresh (i, l, get_or_default xs i x d l ∙ sym e)

  pub set_apart : AreDifferent (set xs k x)
  set_apart i j d l m = grind (arith, length-set, cases_eq, at_other, get_or-set_same, get_or-set_other)

-- an element of a list into which x was put is x, or is found at another place of the list
pub contains_set : {X : Type 0} (xs : List X) (k : ℕ) (x y : X) → k < length xs → Contains (set xs k x) y → (x ≡ y → ⊥) → (i : ℕ) × (i ≢ k) × (i < length xs) × (get_or xs i y ≡ y)
contains_set xs k x y there (i, l, is) ne = grind (arith, cases_eq, get_or-set_same, length-set, get_or-set_other)

-- counts of lists side by side
pub count_by-two : {X Y Z : Type 0} (p : X → Bool) (q : Y → Bool) (r : Z → Bool) (d : X) (e : Y) (f : Z) (xs : List X) (ys : List Y) (zs : List Z) → length xs ≡ length ys → length xs ≡ length zs → ((k : ℕ) → k < length xs → one (p (get_or xs k d)) ≤ one (q (get_or ys k e)) + one (r (get_or zs k f))) → count_by p xs ≤ count_by q ys + count_by r zs
count_by-two p q r d e f [] ys zs a b h = omega arith
count_by-two p q r d e f (x ∷ xs) [] zs a b h = absurd (omega (arith, a))
count_by-two p q r d e f (x ∷ xs) (y ∷ ys) [] a b h = absurd (omega (arith, b))
count_by-two p q r d e f (x ∷ xs) (y ∷ ys) (z ∷ zs) a b h =
    omega (arith, sum_by-cons (λ u. one (p u)) x xs, sum_by-cons (λ u. one (q u)) y ys, sum_by-cons (λ u. one (r u)) z zs, h 0 (omega arith), count_by-two p q r d e f xs ys zs (omega (arith, a)) (omega (arith, b)) (λ k l. h (suc k) (omega (arith, l))))

pub count_by-each : {X Y : Type 0} (p : X → Bool) (q : Y → Bool) (d : X) (e : Y) (xs : List X) (ys : List Y) → length xs ≡ length ys → ((k : ℕ) → k < length xs → p (get_or xs k d) ≡ true → q (get_or ys k e) ≡ true) → count_by p xs ≤ count_by q ys
count_by-each p q d e [] ys a h = omega arith
count_by-each p q d e (x ∷ xs) [] a h = absurd (omega (arith, a))
count_by-each p q d e (x ∷ xs) (y ∷ ys) a h =
    omega (arith, sum_by-cons (λ u. one (p u)) x xs, sum_by-cons (λ u. one (q u)) y ys, less (p x) (q y) (h 0 (omega arith)), count_by-each p q d e xs ys (omega (arith, a)) (λ k l. h (suc k) (omega (arith, l))))
  where
    less : (b c : Bool) → (b ≡ true → c ≡ true) → one b ≤ one c
    less false c h = omega arith
    less true true h = omega arith
    less true false h = absurd (false≢true (h refl))

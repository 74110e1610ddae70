-- Facts about lists.
use Rattle.mig_words.proofs.Common.{AllByRecursion, Global, List, String, [], ap, arith, drop, get_or, length, map, refl, string_bytes, suc, texts, ℕ}
use Rattle.mig_words.proofs.Common.{◌+◌, ◌<◌, ◌∷◌, ◌≡◌}
use Rattle.std.proofs.lemmas.List.{drop_more}

-- the words are spelled so, from this place of the texts on
abbrev pub SpelledAt : List (String Global) → ℕ → List (List ℕ) → Type 0
SpelledAt xs place [] = Unit {0}
SpelledAt xs place (word ∷ words) = (x : String Global) × (x ≡ get_or xs place x) × (word ≡ string_bytes x) × SpelledAt xs (suc place) words

one_less : (x : String Global) (xs : List (String Global)) (place : ℕ) (words : List (List ℕ)) → SpelledAt (x ∷ xs) (suc place) words → SpelledAt xs place words
one_less x xs place [] h = tt
one_less x xs place (word ∷ words) (y, is, spelled, rest) = (y, is, spelled, one_less x xs (suc place) words rest)

pub spelled_so : (xs : List (String Global)) (words : List (List ℕ)) → length xs ≡ length words → SpelledAt xs 0 words → texts xs ≡ words
spelled_so [] [] l h = refl
spelled_so [] (word ∷ words) l h = absurd (omega arith)
spelled_so (x ∷ xs) [] l h = absurd (omega arith)
spelled_so (x ∷ xs) (word ∷ words) l (y, is, spelled, rest) = let e = spelled_so xs words (omega (arith, l)) (one_less x xs 0 words rest) in cc

-- a loop that tests each item: what holds of the rest holds of all, as far as it has come
pub record SoFar {X : Type 0} (P : X → Type 0) (rest all : List X) : Type 0 where
  pub then : AllByRecursion P rest → AllByRecursion P all
  pub back : AllByRecursion P all → AllByRecursion P rest

pub SoFar-step : {X : Type 0} (P : X → Type 0) (x : X) (rest all : List X) → SoFar P (x ∷ rest) all → P x → SoFar P rest all
SoFar-step P x rest all s here = record { then = λ h. s.then (here, h); back = λ h. (s.back h).1 }

pub map-drop : {X Y : Type 0} (f : X → Y) (xs : List X) (i : ℕ) (d : X) → i < length xs → map f (drop i xs) ≡ f (get_or xs i d) ∷ map f (drop (i + 1) xs)
map-drop f xs i d h = ap (map f) (drop_more xs i d h)

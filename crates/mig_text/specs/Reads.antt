-- What the reading of lines says.
use Rattle.std.specs.Prelude.{◌≡◌, ◌==◌, ◌≤◌, ℕ, ◌+◌, List, [], ◌∷◌, ◌++◌, length, not, true, codes, ◌⊎◌}
use Rattle.std.specs.List.{list_all}
use Rattle.std.specs.Fmt.{decimal}
use Rattle.mig_base.specs.Texts.{words}
use Rattle.mig_base.specs.Misfits.{IsMisfit}
use Rattle.mig_text.specs.declared.errors.TextError.{TextError}
use Rattle.mig_text.specs.declared.errors.TextError.TheVariants as text_error

-- how many pieces of a text were taken, and those that are left
pub record Left : Type 0 where
  pub taken : ℕ
  pub pieces : List (List ℕ)

-- this piece was taken
pub record Took (old : Left) (piece : List ℕ) (new : Left) : Type 0 where
  pub cut : old.pieces ≡ piece ∷ new.pieces
  pub number : new.taken ≡ old.taken + 1

-- these pieces were taken
pub record TookAll (old : Left) (front : List (List ℕ)) (new : Left) : Type 0 where
  pub cut : old.pieces ≡ front ++ new.pieces
  pub number : new.taken ≡ old.taken + length front

-- the next piece isn't one of these, or there is none
abbrev pub Misses : (List ℕ → Type 0) → List (List ℕ) → Type 0
Misses Wanted [] = Unit {0}
Misses Wanted (piece ∷ rest) = Wanted piece → ⊥

-- the error has the number of the next piece, which isn't one of these
abbrev pub IsMiss : (List ℕ → Type 0) → Left → TextError → Type 0
IsMiss Wanted old e = (e ≡ text_error.Line (old.taken + 1)) × Misses Wanted old.pieces

-- the error is want of memory, or has the number of the first piece that doesn't fit, where the next piece has this place
abbrev pub IsStop : {P : Type 0} → (P → List ℕ → P → Type 0) → P → P → Left → TextError → Type 0
IsStop Next place over old text_error.Memory = Unit {0}
IsStop Next place over old (text_error.Line n) = (m : ℕ) × ((n ≡ old.taken + m) × IsMisfit Next place over old.pieces m)

-- the word has no blank
abbrev pub HasNoBlank : List ℕ → Type 0
HasNoBlank word = list_all (λ b. not (b == 32)) word ≡ true

-- the piece is the word and a number of at most `most`
abbrev pub IsCountUpTo : List ℕ → ℕ → List ℕ → Type 0
IsCountUpTo word most piece = (n : ℕ) × ((n ≤ most) × (piece ≡ words (word ∷ decimal n ∷ [])))

-- where the error has a line number, it is such a one
abbrev pub IfLine : (ℕ → Type 0) → TextError → Type 0
IfLine Has (text_error.Line n) = Has n
IfLine Has text_error.Memory = Unit {0}

-- the error is that of the first piece that isn't `end`, or nothing after it, or no piece after that
abbrev pub EndsWrong : Left → TextError → Type 0
EndsWrong old e =
    IsMiss (λ piece. piece ≡ codes "end") old e
    ⊎ ((a : Left) × (Took old (codes "end") a × IsMiss (λ piece. piece ≡ []) a e))
    ⊎ ((a : Left) × ((b : Left) × (Took old (codes "end") a × Took a [] b × (e ≡ text_error.Line (b.taken + 1)) × (b.pieces ≡ [] → ⊥))))

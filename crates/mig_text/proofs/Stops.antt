-- Where the reading of lines stops.
use Rattle.mig_text.proofs.Common.{FitsAlong, IsMisfit, IsMiss, IsStop, Left, List, Misses, Stops, TextError, Took, TookAll, [], ap, append_assoc, arith, length, length-append, refl, subst, sym, ℕ}
use Rattle.mig_text.proofs.Common.{◌++◌, ◌+◌, ◌∙◌, ◌∷◌, ◌≢◌}
use Rattle.mig_text.specs.declared.errors.TextError.TheVariants as text_error
use Rattle.mig_text.proofs.Places.{later_misfit}

pub took_one : (old new : Left) (piece : List ℕ) → Took old piece new → TookAll old (piece ∷ []) new
took_one old new piece t = record { cut = t.cut; number = omega (arith, t.number) }

pub took_both : (old now new : Left) (xs ys : List (List ℕ)) → TookAll old xs now → TookAll now ys new → TookAll old (xs ++ ys) new
took_both old now new xs ys a b = record {
  cut = a.cut ∙ ap (λ t. xs ++ t) b.cut ∙ sym (append_assoc xs ys new.pieces);
  number = omega (arith, a.number, b.number, length-append xs ys);
}

pub took_next : (old now new : Left) (xs : List (List ℕ)) (piece : List ℕ) → TookAll old xs now → Took now piece new → TookAll old (xs ++ piece ∷ []) new
took_next old now new xs piece a b = took_both old now new xs (piece ∷ []) a (took_one now new piece b)

module _ {P : Type 0} (Next : P → List ℕ → P → Type 0) where
  missed : (place over : P) (Wanted : List ℕ → Type 0) (pieces : List (List ℕ)) → place ≢ over → ((piece : List ℕ) (next : P) → Next place piece next → Wanted piece) → Misses Wanted pieces → Stops Next over place pieces
  missed place over Wanted [] differs h m = differs
  missed place over Wanted (piece ∷ rest) differs h m = λ next n. m (h piece next n)

  pub miss_stops : (place over : P) (Wanted : List ℕ → Type 0) (old : Left) (e : TextError) → place ≢ over → ((piece : List ℕ) (next : P) → Next place piece next → Wanted piece)
      → IsMiss Wanted old e → IsStop Next place over old e
  miss_stops place over Wanted old e differs h m =
      subst (IsStop Next place over old) (sym m.0)
      (1, (refl, record { before = []; after = old.pieces; place = place; cut = refl; fit = refl; stops = missed place over Wanted old.pieces differs h m.1; number = omega arith }))

  pub later_stops : (first place over : P) (old now : Left) (front : List (List ℕ)) (e : TextError) → FitsAlong Next first front place → TookAll old front now → IsStop Next place over now e → IsStop Next first over old e
  later_stops first place over old now front text_error.Memory leads took s = tt
  later_stops first place over old now front (text_error.Line n) leads took s = (
    length front + s.0,
    (
      omega (arith, s.1.0, took.number),
      subst (λ t. IsMisfit Next first over t (length front + s.0)) (sym took.cut) (later_misfit Next first place over front now.pieces s.0 leads s.1.1),
    ),
  )

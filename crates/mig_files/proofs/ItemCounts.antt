-- What tables of numbers say of items.
use Rattle.mig_files.proofs.Common.{Bool, List, Some, ap, arith, cond, false, item_count, lookup}
use Rattle.mig_files.proofs.Common.{nat_eq, one_if, pointwise, refl, same_text, sym, true, ℕ, ◌+◌, ◌∙◌, ◌∷◌, ◌≡◌, Option, []}
use Rattle.std.specs.Option.{unwrap_or}

abbrev Table : Type 0
Table = List (List ℕ × ℕ)

abbrev same : List ℕ → List ℕ → Bool
same = pointwise nat_eq

pub counted_up : (counts : Table) (item : List ℕ) → item_count counts item ≡ unwrap_or (lookup (same item) counts) 0
counted_up [] item = refl
counted_up (e ∷ counts) item = at (same item e.0) (lookup (same item) counts) (counted_up counts item)
  where
    at : (b : Bool) (found : Option ℕ) → item_count counts item ≡ unwrap_or found 0
        → cond b e.1 (item_count counts item) ≡ unwrap_or (cond b (Some e.1) found) 0
    at true found is = refl
    at false found is = is

module _ (old new : Table) (item : List ℕ) (n : ℕ)
    (updates : (other : List ℕ) → lookup (same other) new ≡ cond (same item other) (Some n) (lookup (same other) old)) where
  count_then : (other : List ℕ) (b : Bool) → same item other ≡ b → item_count new other ≡ unwrap_or (cond b (Some n) (lookup (same other) old)) 0
  count_then other b is =
      counted_up new other ∙ ap (λ (found : Option ℕ). unwrap_or found 0) (updates other)
      ∙ ap (λ (c : Bool). unwrap_or (cond c (Some n) (lookup (same other) old)) 0) is

  pub raised : n ≡ item_count old item + 1 → (other : List ℕ) → item_count new other ≡ item_count old other + one_if (same item other)
  raised more other = at (same item other) refl
    where
      at : (b : Bool) → same item other ≡ b → item_count new other ≡ item_count old other + one_if b
      at true is = omega (arith, more, count_then other true is, ap (item_count old) (same_text item other (sym is)))
      at false is = omega (arith, count_then other false is, counted_up old other)

  pub lowered : n + 1 ≡ item_count old item → (other : List ℕ) → item_count new other + one_if (same item other) ≡ item_count old other
  lowered less other = at (same item other) refl
    where
      at : (b : Bool) → same item other ≡ b → item_count new other + one_if b ≡ item_count old other
      at true is = omega (arith, less, count_then other true is, ap (item_count old) (same_text item other (sym is)))
      at false is = omega (arith, count_then other false is, counted_up old other)

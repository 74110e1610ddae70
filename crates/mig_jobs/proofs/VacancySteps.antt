-- How the table of a plan's vacancies comes to be.
use Rattle.mig_jobs.proofs.Common.{Bool, List, None, Option, Shift, Some, Spot, Vacancy, [], ap, append_assoc, cond, ended_by, ended_in, false, left_after, left_in, length, lookup, map, open_in}
use Rattle.mig_jobs.proofs.Common.{open_of, refl, round_at, same_spot, suc, sym, table_round, true, ℕ, ◌++◌, ◌∙◌, ◌∷◌, ◌≡◌}

-- What a table has for a spot

abbrev number : Option ℕ → ℕ
number None = 0
number (Some n) = n

looked_up : (es : List (Spot × ℕ)) (spot : Spot) → table_round es spot ≡ number (lookup (same_spot spot) es)
looked_up [] spot = refl
looked_up (e ∷ es) spot = at (same_spot spot e.0) (looked_up es spot)
  where
    at : (b : Bool) → table_round es spot ≡ number (lookup (same_spot spot) es) → cond b e.1 (table_round es spot) ≡ number (cond b (Some e.1) (lookup (same_spot spot) es))
    at true rest = refl
    at false rest = rest

pub some_round : (es : List (Spot × ℕ)) (spot : Spot) (n : ℕ) → Some n ≡ lookup (same_spot spot) es → n ≡ table_round es spot
some_round es spot n is = ap number is ∙ sym (looked_up es spot)

pub no_round_of : (es : List (Spot × ℕ)) (spot : Spot) → None ≡ lookup (same_spot spot) es → 0 ≡ table_round es spot
no_round_of es spot is = ap number is ∙ sym (looked_up es spot)

pub round_set : (old new : List (Spot × ℕ)) (spot : Spot) (n : ℕ) → ((other : Spot) → lookup (same_spot other) new ≡ cond (same_spot spot other) (Some n) (lookup (same_spot other) old))
    → (other : Spot) → table_round new other ≡ cond (same_spot spot other) n (table_round old other)
round_set old new spot n is other = looked_up new other ∙ ap number (is other) ∙ at (same_spot spot other)
  where
    at : (b : Bool) → number (cond b (Some n) (lookup (same_spot other) old)) ≡ cond b n (table_round old other)
    at true = refl
    at false = sym (looked_up old other)

-- One round more

module _ (plan : List (List Shift)) (k m : ℕ) (next : m ≡ suc k) (shifts : List Shift) (same : shifts ≡ round_at plan (suc k)) where
  module _ (before : List (Spot × ℕ)) (left : (spot : Spot) → table_round before spot ≡ left_in plan k spot) where
    was : table_round before ≡ left_in plan k
    was = λ i spot. left spot i

    pub left_more : (after : List (Spot × ℕ)) → ((spot : Spot) → table_round after spot ≡ left_after (table_round before) m shifts spot) → (spot : Spot) → table_round after spot ≡ left_in plan m spot
    left_more after step spot = step spot ∙ (λ i. left_after (was i) (next i) (same i) spot) ∙ ap (λ (n : ℕ). left_in plan n spot) (sym next)

    pub ended_more : (first sofar new : List Vacancy) → sofar ≡ first ++ ended_in plan k → new ≡ sofar ++ map (ended_by (table_round before) m) shifts → new ≡ first ++ ended_in plan m
    ended_more first sofar new is step =
        step ∙ ap (λ (l : List Vacancy). l ++ map (ended_by (table_round before) m) shifts) is
        ∙ append_assoc first (ended_in plan k) (map (ended_by (table_round before) m) shifts)
        ∙ (λ i. first ++ (ended_in plan k ++ map (ended_by (was i) (next i)) (same i)))
        ∙ ap (λ (n : ℕ). first ++ ended_in plan n) (sym next)

  pub open_more : (table : List (Spot × ℕ)) → ((spot : Spot) → table_round table spot ≡ left_in plan (length plan) spot) → (until : ℕ) → until ≡ suc (length plan)
      → (first sofar new : List Vacancy) → sofar ≡ first ++ open_in plan k → new ≡ sofar ++ open_of (table_round table) until m shifts → new ≡ first ++ open_in plan m
  open_more table left until end first sofar new is step =
      step ∙ ap (λ (l : List Vacancy). l ++ open_of (table_round table) until m shifts) is
      ∙ append_assoc first (open_in plan k) (open_of (table_round table) until m shifts)
      ∙ (λ i. first ++ (open_in plan k ++ open_of (λ (spot : Spot). left spot i) (end i) (next i) (same i)))
      ∙ ap (λ (n : ℕ). first ++ open_in plan n) (sym next)

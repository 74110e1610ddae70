-- Elements that are different.
use Rattle.mig_text.proofs.Common.{AreDifferent, Contains, List, arith, get_or-append, get_or-append_seam, length, length-append, subst, sym, ◌++◌, ◌<◌, ◌∙◌, ◌∷◌, ◌≡◌}

-- one of them isn't among those before it
pub not_before : {X : Type 0} (a : List X) (x : X) (rest : List X) → AreDifferent (a ++ x ∷ rest) → Contains a x → ⊥
not_before a x rest apart c =
    let within : length a < length (a ++ x ∷ rest) = omega (arith, length-append a (x ∷ rest)) in
    apart c.0 (length a) x c.1 within (get_or-append a (x ∷ rest) x c.0 c.1 ∙ c.2 ∙ sym (get_or-append_seam a x rest x))

-- the same of a part of a list
pub not_before_in : {X : Type 0} (xs a : List X) (x : X) (rest : List X) → AreDifferent xs → a ++ x ∷ rest ≡ xs → Contains a x → ⊥
not_before_in xs a x rest apart e = not_before a x rest (subst AreDifferent (sym e) apart)

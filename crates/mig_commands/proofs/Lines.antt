-- Lines that are added one by one.
use Rattle.mig_commands.proofs.Common.{List, [], ap, flat_map_more, text_of_lines, ℕ, ◌++◌, ◌∙◌, ◌∷◌, ◌≡◌}

pub one_line : (old : List ℕ) (lines : List (List ℕ)) (line mid new : List ℕ) → mid ≡ old ++ text_of_lines lines → new ≡ mid ++ (line ++ 10 ∷ []) → new ≡ old ++ text_of_lines (lines ++ line ∷ [])
one_line old lines line mid new so_far more = more ∙ ap (λ (xs : List ℕ). xs ++ (line ++ 10 ∷ [])) so_far ∙ flat_map_more (λ (l : List ℕ). l ++ 10 ∷ []) old lines line

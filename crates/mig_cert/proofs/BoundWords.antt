-- The line of a bound is read through its words.
use Rattle.mig_cert.proofs.Common.{AllByRecursion, BoundLine, Disk, Empty, FitsLine, Head, InputLists, IsInput, Lacks, Lacks-decimal, List, Many, MatchOption, None, One, OneSide, Option, Some, [], ap}
use Rattle.mig_cert.proofs.Common.{arith, bound_line, bound_words, codes, decimal, decimal_injective, disk_name, disk_words_lack, lacks_test, length, limit_of, line_is, line_of_head, no_disk}
use Rattle.mig_cert.proofs.Common.{nothing_lacks, refl, same_place, same_side_word, same_words, side_limit_of, side_word, side_words_lack, subst, sym, words, words_are, words_of, ℕ, ◌<◌, ◌∙◌}
use Rattle.mig_cert.proofs.Common.{◌∷◌, ◌≡◌, ◌≢◌}

module _ (input : InputLists) where
  pub line_of_words : (b : BoundLine) → words (bound_words input b) ≡ bound_line input b
  line_of_words Empty = refl
  line_of_words (One d l v) = refl
  line_of_words (OneSide d side l v) = refl
  line_of_words (Many n i v) = refl

  -- the first word, and the others
  bound_first : (b : BoundLine) → (rest : List (List ℕ)) × (bound_words input b ≡ codes "bound" ∷ rest)
  bound_first Empty = (codes "nothing" ∷ [], refl)
  bound_first (One d l v) = (codes "disk" ∷ disk_name input d ∷ decimal l ∷ decimal (limit_of input d) ∷ decimal v ∷ [], refl)
  bound_first (OneSide d side l v) = (codes "side" ∷ disk_name input d ∷ side_word side ∷ decimal l ∷ decimal (side_limit_of input side d) ∷ decimal v ∷ [], refl)
  bound_first (Many n i v) = (codes "set" ∷ decimal n ∷ decimal i ∷ decimal v ∷ [], refl)

module _ (input : InputLists) (valid : IsInput input) where
  bound_words_lack : (b : BoundLine) → FitsLine input b → AllByRecursion (Lacks 32) (bound_words input b)
  bound_words_lack Empty fits = nothing_lacks input valid 32 (omega arith)
  bound_words_lack (One d l v) fits = disk_words_lack input valid 32 (omega arith) refl (record { 0 = d }) l v fits.0 fits.1 fits.2
  bound_words_lack (OneSide d side l v) fits = side_words_lack input valid 32 (omega arith) refl (record { 0 = d }) side l v fits.0 fits.1 fits.2
  bound_words_lack (Many n i v) fits = (
    lacks_test 32 (codes "bound") refl,
    (
      lacks_test 32 (codes "set") refl,
      (Lacks-decimal 32 n (omega arith) (omega (arith, fits.0)), (Lacks-decimal 32 i (omega arith) (omega (arith, fits.1)), (Lacks-decimal 32 v (omega arith) (omega (arith, fits.2)), tt))),
    ),
  )

  first_lack : (b : BoundLine) → FitsLine input b → AllByRecursion (Lacks 32) (codes "bound" ∷ (bound_first input b).0)
  first_lack b fits = subst (AllByRecursion (Lacks 32)) (bound_first input b).1 (bound_words_lack b fits)

  bound_words_are : (line : List ℕ) (b : BoundLine) → FitsLine input b → line ≡ bound_line input b → words_of line ≡ bound_words input b
  bound_words_are line b fits e =
      let x = bound_first input b in
      words_are line (codes "bound") x.0 (first_lack b fits) (e ∙ sym (line_of_words input b) ∙ ap words x.1) ∙ sym x.1

  pub bound_read : (line : List ℕ) (o : Option Head) → MatchOption o ((b : BoundLine) → FitsLine input b → words_of line ≢ bound_words input b) (λ h. FitsLine input (line_of_head h) × (words_of line ≡ bound_words input (line_of_head h)))
      → MatchOption o ((b : BoundLine) → FitsLine input b → line ≢ bound_line input b) (λ h. FitsLine input (line_of_head h) × (line ≡ bound_line input (line_of_head h)))
  bound_read line None m = λ b fits e. m b fits (bound_words_are line b fits e)
  bound_read line (Some h) m = (m.0, line_is line _ m.1 ∙ line_of_words input (line_of_head h))

  -- a line is that of one bound
  same_bound_words : (a b : BoundLine) → FitsLine input a → FitsLine input b → bound_line input a ≡ bound_line input b → bound_words input a ≡ bound_words input b
  same_bound_words a b fa fb e =
      let x = bound_first input a in
      let y = bound_first input b in
      x.1 ∙ same_words (codes "bound") (codes "bound") x.0 y.0 (first_lack a fa) (first_lack b fb)
      (sym (sym (line_of_words input a) ∙ ap words x.1) ∙ e ∙ (sym (line_of_words input b) ∙ ap words y.1)) ∙ sym y.1

  pub same_disk : (d e : ℕ) → d < length input.disks → e < length input.disks → disk_name input d ≡ disk_name input e → d ≡ e
  same_disk d e hd he eq = same_place (λ (x : Disk). x.name) input.disks no_disk d e valid.disk_names hd he eq

  same_of_words : (a b : BoundLine) → FitsLine input a → FitsLine input b → bound_words input a ≡ bound_words input b → a ≡ b
  same_of_words Empty Empty fa fb e = refl
  same_of_words (One d l v) (One d' l' v') fa fb e =
      let x : d ≡ d' = same_disk d d' fa.0 fb.0 cc in
      let y : l ≡ l' = decimal_injective l l' (omega (arith, fa.1)) (omega (arith, fb.1)) cc in
      let z : v ≡ v' = decimal_injective v v' (omega (arith, fa.2)) (omega (arith, fb.2)) cc in
      cc
  same_of_words (OneSide d side l v) (OneSide d' side' l' v') fa fb e =
      let x : d ≡ d' = same_disk d d' fa.0 fb.0 cc in
      let w : side ≡ side' = same_side_word side side' cc in
      let y : l ≡ l' = decimal_injective l l' (omega (arith, fa.1)) (omega (arith, fb.1)) cc in
      let z : v ≡ v' = decimal_injective v v' (omega (arith, fa.2)) (omega (arith, fb.2)) cc in
      cc
  same_of_words (Many n i v) (Many n' i' v') fa fb e =
      let x : n ≡ n' = decimal_injective n n' (omega (arith, fa.0)) (omega (arith, fb.0)) cc in
      let y : i ≡ i' = decimal_injective i i' (omega (arith, fa.1)) (omega (arith, fb.1)) cc in
      let z : v ≡ v' = decimal_injective v v' (omega (arith, fa.2)) (omega (arith, fb.2)) cc in
      cc
  same_of_words _ _ fa fb e = absurd cc

  pub same_bound_line : (a b : BoundLine) → FitsLine input a → FitsLine input b → bound_line input a ≡ bound_line input b → a ≡ b
  same_bound_line a b fa fb e = same_of_words a b fa fb (same_bound_words a b fa fb e)

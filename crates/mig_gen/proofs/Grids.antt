-- Rows of one length, one after the other, read by the place in the whole.
use Rattle.mig_gen.proofs.Common.{List, [], ap, append-nil, arith, div-mul-add, fill_by_all, flat_map, flat_map-append, get_or-map-range_with_len, length-map-range_with_len, map, map_more}
use Rattle.mig_gen.proofs.Common.{mod-mul-add, range_append, range_next, range_with_len, refl, suc, sym, zero, ℕ, ◌%◌, ◌*◌, ◌++◌, ◌+◌, ◌-◌, ◌/◌, ◌<◌, ◌∙◌, ◌∷◌, ◌≡◌}

-- the numbers before one of them, that one, and those after it
pub range_split : (n v : ℕ) → v < n → range_with_len 0 n ≡ range_with_len 0 v ++ v ∷ range_with_len (v + 1) (n - (v + 1))
range_split n v lt =
    let len : n ≡ v + suc (n - (v + 1)) = omega arith in
    let from : 0 + v ≡ v = omega arith in
    ap (range_with_len 0) len ∙ range_append 0 v (suc (n - (v + 1))) ∙ ap (λ a. range_with_len 0 v ++ range_with_len a (suc (n - (v + 1)))) from

module _ {X : Type 0} (g : ℕ → ℕ → X) (k : ℕ) where
  abbrev at : ℕ → X
  at i = g (i / k) (i % k)

  abbrev row : ℕ → List X
  row v = map (g v) (range_with_len 0 k)

  row_at : (n : ℕ) → map at (range_with_len (n * k) k) ≡ row n
  row_at n =
      fill_by_all (g n) (map at (range_with_len (n * k) k)) k (g 0 0) (length-map-range_with_len at (n * k) k)
      (λ j lt. get_or-map-range_with_len at (n * k) k j (n * k + j) (g 0 0) lt refl ∙ ap (λ v. g v ((n * k + j) % k)) (div-mul-add n k j lt) ∙ ap (g n) (mod-mul-add n k j lt))

  pub rows_are : (n : ℕ) → flat_map row (range_with_len 0 n) ≡ map at (range_with_len 0 (n * k))
  rows_are zero = let none : 0 ≡ 0 * k = omega arith in ap (λ m. map at (range_with_len 0 m)) none
  rows_are (suc n) =
      let start : n * k ≡ 0 + n * k = omega arith in
      let long : n * k + k ≡ suc n * k = omega arith in
      ap (flat_map row) (range_next 0 n n (omega arith)) ∙ flat_map-append row (range_with_len 0 n) (n ∷ [])
      ∙ ap (λ (xs : List X). xs ++ (row n ++ [])) (rows_are n) ∙ ap (λ (xs : List X). map at (range_with_len 0 (n * k)) ++ xs) (append-nil (row n) ∙ sym (row_at n) ∙ ap (λ a. map at (range_with_len a k)) start)
      ∙ sym (map_more at 0 (n * k) k) ∙ ap (λ m. map at (range_with_len 0 m)) long

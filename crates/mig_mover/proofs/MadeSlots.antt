-- A list that is filled with what stands in its front.
use Rattle.mig_mover.proofs.Common.{List, [], add-mod_left, ap, append-nil, append_assoc, arith, cases_lt, drop, drop-append-add, drop-replicate, fill_by_all, get_or, inl, inr, length}
use Rattle.mig_mover.proofs.Common.{length-map-range_with_len, map, map-range_with_len_more, min, mod-eq_of_lt, range_with_len, refl, replicate, suc, sym, take, take-append-le, take-append_seam}
use Rattle.mig_mover.proofs.Common.{take-map-range_with_len, zero, ℕ, ◌%◌, ◌++◌, ◌+◌, ◌-◌, ◌<◌, ◌∙◌, ◌∷◌, ◌≡◌, ◌≤◌, ◌⊎◌}

module _ (byte : ℕ → ℕ) where
  -- the first n bytes
  abbrev pub bytes_to : ℕ → List ℕ
  bytes_to n = map byte (range_with_len 0 n)

  joined : (n more : ℕ) → ((k : ℕ) → k < more → byte (n + k) ≡ byte k) → bytes_to n ++ bytes_to more ≡ bytes_to (n + more)
  joined n zero same = append-nil (bytes_to n) ∙ ap bytes_to (let e : n ≡ n + zero = omega arith in e)
  joined n (suc m) same =
      ap (λ (l : List ℕ). bytes_to n ++ l) (ap bytes_to (let e : suc m ≡ m + 1 = omega arith in e) ∙ map-range_with_len_more byte 0 m m (omega arith))
      ∙ sym (append_assoc (bytes_to n) (bytes_to m) (byte m ∷ []))
      ∙ ap (λ (l : List ℕ). l ++ byte m ∷ []) (joined n m (λ k lt. same k (omega arith)))
      ∙ ap (λ (b : ℕ). bytes_to (n + m) ++ b ∷ []) (sym (same m (omega arith)))
      ∙ sym (map-range_with_len_more byte 0 (n + m) (n + m) (omega arith))
      ∙ ap bytes_to (let e : n + m + 1 ≡ n + suc m = omega arith in e)

  -- the first n bytes, and zeros
  abbrev pub filled_to : ℕ → ℕ → List ℕ
  filled_to all n = bytes_to n ++ replicate (all - n) 0

  -- more bytes, which are the first again
  pub filled_more : (all n more : ℕ) → more ≤ n → ((k : ℕ) → k < more → byte (n + k) ≡ byte k) → (bytes : List ℕ) → bytes ≡ filled_to all n
      → take n bytes ++ take more bytes ++ drop (n + more) bytes ≡ filled_to all (n + more)
  filled_more all n more le same bytes is =
      let long : length (bytes_to n) ≡ n = length-map-range_with_len byte 0 n in
      let rest = replicate (all - n) 0 in
      let front : take n (filled_to all n) ≡ bytes_to n = ap (λ (k : ℕ). take k (filled_to all n)) (sym long) ∙ take-append_seam (bytes_to n) rest in
      let again : take more (filled_to all n) ≡ bytes_to more = take-append-le more (bytes_to n) rest (omega (arith, le, long)) ∙ take-map-range_with_len byte 0 n more le in
      let back : drop (n + more) (filled_to all n) ≡ replicate (all - (n + more)) 0 =
      ap (λ (k : ℕ). drop (k + more) (filled_to all n)) (sym long) ∙ drop-append-add (bytes_to n) rest more ∙ drop-replicate more (all - n) 0 ∙ ap (λ (k : ℕ). replicate k 0) (let e : all - n - more ≡ all - (n + more) = omega arith in e) in
      ap (λ (l : List ℕ). take n l ++ take more l ++ drop (n + more) l) is
      ∙ ap (λ (l : List ℕ). l ++ take more (filled_to all n) ++ drop (n + more) (filled_to all n)) front
      ∙ ap (λ (l : List ℕ). bytes_to n ++ l ++ drop (n + more) (filled_to all n)) again
      ∙ ap (λ (l : List ℕ). bytes_to n ++ bytes_to more ++ l) back
      ∙ ap (λ (l : List ℕ). l ++ replicate (all - (n + more)) 0) (joined n more same)

  pub filled_all : (all n : ℕ) → n ≡ all → filled_to all n ≡ bytes_to all
  filled_all all n is =
      let none : all - n ≡ 0 = omega arith in
      ap (λ (k : ℕ). bytes_to n ++ replicate k 0) none ∙ append-nil (bytes_to n) ∙ ap bytes_to is

-- the byte of a name that stands at a place, where it is repeated
abbrev pub name_byte : List ℕ → ℕ → ℕ
name_byte name p = get_or name (p % length name) 0

-- so many bytes are the name again and again, or all are
abbrev pub IsWhole : List ℕ → ℕ → ℕ → Type 0
IsWhole name all n = (k : ℕ) → n + k < all → name_byte name (n + k) ≡ name_byte name k

pub whole_once : (name : List ℕ) (all : ℕ) → IsWhole name all (length name)
whole_once name all k lt = ap (λ (i : ℕ). get_or name i 0) (add-mod_left (length name) k)

-- twice as many, or all
pub whole_more : (name : List ℕ) (all n more : ℕ) → IsWhole name all n → (more ≡ n) ⊎ (n + more ≡ all) → IsWhole name all (n + more)
whole_more name all n more whole (inl twice) k lt =
    ap (name_byte name) (let e : n + more + k ≡ n + (n + k) = omega arith in e) ∙ whole (n + k) (omega arith) ∙ whole k (omega arith)
whole_more name all n more whole (inr done) k lt = absurd (omega arith)

pub name_first : (name : List ℕ) → name ≡ bytes_to (name_byte name) (length name)
name_first name = fill_by_all (name_byte name) name (length name) 0 refl (λ k lt. ap (λ (i : ℕ). get_or name i 0) (sym (mod-eq_of_lt lt)))

-- the name, and zeros
pub filled_start : (name bytes front : List ℕ) (all : ℕ) → bytes ≡ name → front ≡ bytes → front ++ drop (length bytes) (replicate all 0) ≡ filled_to (name_byte name) all (length bytes)
filled_start name bytes front all is same =
    ap (λ (l : List ℕ). l ++ drop (length bytes) (replicate all 0)) (same ∙ is ∙ name_first name ∙ ap (bytes_to (name_byte name)) (sym (ap (λ (l : List ℕ). length l) is)))
    ∙ ap (λ (l : List ℕ). bytes_to (name_byte name) (length bytes) ++ l) (drop-replicate (length bytes) all 0)

pub min_cases : (n all more : ℕ) → n ≤ all → more ≡ min n (all - n) → (more ≡ n) ⊎ (n + more ≡ all)
min_cases n all more le is = elim (cases_lt n (all - n)) [
  | inl lt ↦ inl (omega (arith, is))
  | inr ge ↦ inr (omega (arith, is))
]

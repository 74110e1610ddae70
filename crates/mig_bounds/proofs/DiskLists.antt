-- Disks listed by their numbers.
use Rattle.mig_bounds.proofs.Common.{AllPairs, Bool, DiskId, IsDiskSet, List, [], ap, append-nil, arith, cond, false, filter, filter-append, get_or-map, length-map, map-append, numbers}
use Rattle.mig_bounds.proofs.Common.{range_more, range_with_len, true, ℕ, ◌++◌, ◌+◌, ◌<◌, ◌∙◌, ◌∷◌, ◌≡◌}

-- the numbers that pass, up to one that does or doesn't
pub filter_yes : (p : ℕ → Bool) (n : ℕ) → p n ≡ true → filter p (range_with_len 0 (n + 1)) ≡ filter p (range_with_len 0 n) ++ n ∷ []
filter_yes p n t = ap (filter p) (range_more n) ∙ filter-append p (range_with_len 0 n) (n ∷ []) ∙ ap (λ b. filter p (range_with_len 0 n) ++ cond b (n ∷ []) []) t

pub filter_no : (p : ℕ → Bool) (n : ℕ) → p n ≡ false → filter p (range_with_len 0 (n + 1)) ≡ filter p (range_with_len 0 n)
filter_no p n t = ap (filter p) (range_more n) ∙ filter-append p (range_with_len 0 n) (n ∷ []) ∙ ap (λ b. filter p (range_with_len 0 n) ++ cond b (n ∷ []) []) t ∙ append-nil (filter p (range_with_len 0 n))

pub numbers_push : (disks : List DiskId) (n : ℕ) → numbers (disks ++ record { 0 = n } ∷ []) ≡ numbers disks ++ n ∷ []
numbers_push disks n = map-append (λ (d : DiskId). d.0) disks (record { 0 = n } ∷ [])

-- disks whose numbers increase are a set
pub IsDiskSet-numbers : (disks : List DiskId) → AllPairs (λ a b. a < b) (numbers disks) → IsDiskSet disks
IsDiskSet-numbers disks pairs i j d l h =
    let f : DiskId → ℕ = λ x. x.0 in
    omega (arith, pairs i j 0 l (omega (arith, h, length-map disks f)), get_or-map f disks i d 0 (omega (arith, l, h)), get_or-map f disks j d 0 h)

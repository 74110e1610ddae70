-- The items that are still to be counted among those that come to a disk.
use Rattle.mig_csv.proofs.Common.{Bool, InputLists, List, ap, arith, cond, count_by, false, filter, incoming, is_relocated, length, range_with_len}
use Rattle.mig_csv.proofs.Common.{suc, sum_by-cons, target, true, ℕ, ◌&&◌, ◌+◌, ◌-◌, ◌<◌, ◌==◌, ◌∷◌, ◌≡◌, ◌≤◌}

-- of the items from this number on
abbrev pub left_from : InputLists → ℕ → ℕ → ℕ
left_from i v item = count_by (λ m. target i m == v) (filter (is_relocated i) (range_with_len item (length i.items - item)))

pub left_from-start : (i : InputLists) (v : ℕ) → left_from i v 0 ≡ incoming i v
left_from-start i v = let e : length i.items - 0 ≡ length i.items = omega arith in ap (λ (n : ℕ). count_by (λ m. target i m == v) (filter (is_relocated i) (range_with_len 0 n))) e

next_range : (item n : ℕ) → item < n → range_with_len item (n - item) ≡ item ∷ range_with_len (item + 1) (n - (item + 1))
next_range item n h = let e : n - item ≡ suc (n - (item + 1)) = omega arith in ap (range_with_len item) e

kept : (q : ℕ → Bool) (b : Bool) (item : ℕ) (rest : List ℕ) → count_by q (cond b (item ∷ rest) rest) ≡ cond (b && q item) 1 0 + count_by q rest
kept q true item rest = sum_by-cons (λ m. cond (q m) 1 0) item rest
kept q false item rest = omega arith

pub left_from-next : (i : InputLists) (v item : ℕ) → item < length i.items → left_from i v item ≡ cond (is_relocated i item && (target i item == v)) 1 0 + left_from i v (item + 1)
left_from-next i v item h = grind (arith, next_range, kept)

pub left_from-end : (i : InputLists) (v item : ℕ) → length i.items ≤ item → left_from i v item ≡ 0
left_from-end i v item h = let e : length i.items - item ≡ 0 = omega arith in ap (λ (n : ℕ). count_by (λ m. target i m == v) (filter (is_relocated i) (range_with_len item n))) e

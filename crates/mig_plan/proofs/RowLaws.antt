-- From a limited colouring to a partition into rounds.
use Rattle.mig_plan.proofs.Common.{All, All-filter, All-map, AreColourRows, AreTargets, Bool, Colour, Global, InputLists, IsLimited, IsMoveShift, IsPartition, KeepsLimits, List, Shift, Spot, Transfer, Vec, []}
use Rattle.mig_plan.proofs.Common.{ap, append-nil, arith, cases_eq, colour_at, cond, count_by, count_by-filter, count_by-filter-le, count_by-le-length, edges_of, eq-eqb, eqb, false≢true}
use Rattle.mig_plan.proofs.Common.{fill_by_all, filter, filter-append, filter_passes, get_or, get_or-le-sum_by, get_or-set_other, get_or-set_same, get_or_default, in_range, inl, inr, is_filled}
use Rattle.mig_plan.proofs.Common.{is_of, is_relocated, items_of, length, length-filter, length-map, length-map-range_with_len, length-range_with_len, length-set, lowest_at, map, map-append}
use Rattle.mig_plan.proofs.Common.{colour_row, map_same, move_at, move_shift, moves, nat_tests, ne_eqb, not, once_in_range, one, range_below, range_more, range_with_len, refl, set, shift_count}
use Rattle.mig_plan.proofs.Common.{source, subst, suc, sum_by, sum_by-cons, sum_by-filter, sum_by-map, sum_by-same_each, sum_by-swap, sym, transfer_graph, transfer, transfer_at, transfer_of, transfers, true, zero, ℕ}
use Rattle.mig_plan.proofs.Common.{◌&&◌, ◌++◌, ◌+◌, ◌<◌, ◌∙◌, ◌∷◌, ◌≡◌, ◌≢◌, ◌≤◌}

-- ---- the loop over the edges

edges_more : (colours : List Colour) (c n : ℕ) → edges_of colours c (n + 1) ≡ edges_of colours c n ++ cond (eqb (colour_at colours n) c) (n ∷ []) []
edges_more colours c n =
    let p : ℕ → Bool = λ e. eqb (colour_at colours e) c in
    ap (filter p) (range_more n) ∙ filter-append p (range_with_len 0 n) (n ∷ [])

row_same : (input : InputLists) (targets : List Spot) (colours : List Colour) (c n : ℕ) → colour_at colours n ≡ c → colour_row input targets colours c (n + 1) ≡ colour_row input targets colours c n ++ move_shift input targets n ∷ []
row_same input targets colours c n e =
    let f = move_shift input targets in
    ap (map f) (edges_more colours c n ∙ ap (λ b. edges_of colours c n ++ cond b (n ∷ []) []) (eq-eqb (colour_at colours n) c e)) ∙ map-append f (edges_of colours c n) (n ∷ [])

row_other : (input : InputLists) (targets : List Spot) (colours : List Colour) (c n : ℕ) → colour_at colours n ≢ c → colour_row input targets colours c (n + 1) ≡ colour_row input targets colours c n
row_other input targets colours c n ne =
    let f = move_shift input targets in
    ap (map f) (edges_more colours c n ∙ ap (λ b. edges_of colours c n ++ cond b (n ∷ []) []) (ne_eqb (colour_at colours n) c ne)) ∙ map-append f (edges_of colours c n) [] ∙ Rattle.std.proofs.lemmas.List.append-nil (map f (edges_of colours c n))

pub AreRows-more : (input : InputLists) (targets : List Spot) (colours : List Colour) (n : ℕ) (rows : List (Vec Shift Global)) (old new : Vec Shift Global) → colour_at colours n < length rows → old ≡ get_or rows (colour_at colours n) old → new.items ≡ old.items ++ move_shift input targets n ∷ [] → AreColourRows input targets colours n rows → AreColourRows input targets colours (n + 1) (set rows (colour_at colours n) new)
AreRows-more input targets colours n rows old new there was is a =
    record {
      row = λ c d h. elim (cases_eq c (colour_at colours n)) [
        | inl e ↦ ap (λ k. (get_or (set rows (colour_at colours n) new) k d).items) e ∙ ap (λ (v : Vec Shift Global). v.items) (get_or-set_same rows (colour_at colours n) new d there)
            ∙ is ∙ ap (λ (xs : List Shift). xs ++ move_shift input targets n ∷ []) (ap (λ (v : Vec Shift Global). v.items) was ∙ a.row (colour_at colours n) old there)
            ∙ sym (row_same input targets colours (colour_at colours n) n refl) ∙ ap (λ k. colour_row input targets colours k (n + 1)) (sym e)
        | inr ne ↦ ap (λ (v : Vec Shift Global). v.items) (get_or-set_other rows (colour_at colours n) c new d ne) ∙ a.row c d (omega (arith, h, length-set rows (colour_at colours n) new))
            ∙ sym (row_other input targets colours c n (λ e. ne (sym e)))
      ];
    }

-- ---- the partition

map_at : {X Y : Type 0} (f : X → Y) (P : Y → Type 0) (xs : List X) (k : ℕ) (e : Y) → k < length xs → ((d : X) → P (f (get_or xs k d))) → P (get_or (map f xs) k e)
map_at f P [] k e h p = absurd (omega arith)
map_at f P (x ∷ xs) zero e h p = p x
map_at f P (x ∷ xs) (suc k) e h p = map_at f P xs k e (omega arith) p

abbrev pub rows_for : InputLists → List Spot → List Colour → ℕ → ℕ → List (List Shift)
rows_for input targets colours n m = map (λ c. colour_row input targets colours c m) (range_with_len 0 n)

pub rows_are : (input : InputLists) (targets : List Spot) (colours : List Colour) (n m : ℕ) (rows : List (Vec Shift Global)) → length rows ≡ n → AreColourRows input targets colours m rows → map items_of rows ≡ rows_for input targets colours n m
rows_are input targets colours n m rows len a =
    fill_by_all (λ c. colour_row input targets colours c m) (map items_of rows) n [] (length-map rows items_of ∙ len)
    (λ k h. map_at items_of (λ (r : List Shift). r ≡ colour_row input targets colours k m) rows k [] (omega (arith, h, len)) (λ d. a.row k d (omega (arith, h, len))))

none_above : (k a n : ℕ) (b : Bool) → k < a → sum_by (λ c. one (eqb k c && b)) (range_with_len a n) ≡ 0
none_above k a zero b h = refl
none_above k a (suc n) b h = omega (arith, sum_by-cons (λ c. one (eqb k c && b)) a (range_with_len (a + 1) n), no_head k a b h, none_above k (a + 1) n b (omega arith))
  where
    no_head : (k a : ℕ) (b : Bool) → k < a → one (eqb k a && b) ≡ 0
    no_head k a b h = grind (arith, nat_tests)

once_from : (k a n : ℕ) (b : Bool) → a ≤ k → k < a + n → sum_by (λ c. one (eqb k c && b)) (range_with_len a n) ≡ one b
once_from k a zero b l h = absurd (omega arith)
once_from k a (suc n) b l h = elim (cases_eq k a) [
  | inl e ↦ omega (arith, sum_by-cons (λ c. one (eqb k c && b)) a (range_with_len (a + 1) n), at_head k a b e, none_above k (a + 1) n b (omega (arith, e)))
  | inr ne ↦ omega (arith, sum_by-cons (λ c. one (eqb k c && b)) a (range_with_len (a + 1) n), off_head k a b ne, once_from k (a + 1) n b (omega (arith, l, ne)) (omega arith))
]
  where
    at_head : (k a : ℕ) (b : Bool) → k ≡ a → one (eqb k a && b) ≡ one b
    at_head k a b e = grind (arith, nat_tests)

    off_head : (k a : ℕ) (b : Bool) → k ≢ a → one (eqb k a && b) ≡ 0
    off_head k a b e = grind (arith, nat_tests)

empty_counts : (f : Shift → ℕ) (row : List Shift) → cond (is_filled row) (sum_by f row) 0 ≡ sum_by f row
empty_counts f [] = refl
empty_counts f (s ∷ ss) = rw (full (length ss)) refl
  where
    full : (n : ℕ) → not (eqb (suc n) 0) ≡ true
    full n = grind (arith, nat_tests)

count_places : (p : ℕ → Bool) (xs : List ℕ) → count_by (λ k. p (get_or xs k 0)) (range_with_len 0 (length xs)) ≡ count_by p xs
count_places p xs =
    let e = fill_by_all (λ k. get_or xs k 0) xs (length xs) 0 refl (λ k h. refl) in
    sym (sum_by-map (λ x. one (p x)) (λ k. get_or xs k 0) (range_with_len 0 (length xs))) ∙ ap (λ (ys : List ℕ). count_by p ys) (sym e)

once_in_moves : (input : InputLists) (e : ℕ) → e < length (moves input) → count_by (λ m. eqb m (move_at input e)) (moves input) ≡ 1
once_in_moves input e h =
    let k = move_at input e in
    let n = length input.items in
    omega (arith, get_or-le-sum_by (λ m. one (eqb m k)) (moves input) e 0 h, ap one (eq-eqb k k refl), count_by-filter-le (λ m. eqb m k) (is_relocated input) (range_with_len 0 n), once_in_range 0 n k)

shift_once : (input : InputLists) (targets : List Spot) (colours : List Colour) (n e : ℕ) → length colours ≡ length (moves input) → All (λ c. c.0 < n) colours → e < length (moves input) → shift_count (filter is_filled (rows_for input targets colours n (length (moves input)))) (move_at input e) ≡ 1
shift_once input targets colours n e len below h =
    let M = length (moves input) in
    let m = move_at input e in
    let f : List Shift → ℕ = λ row. count_by (is_of m) row in
    let rows = rows_for input targets colours n M in
    let q : ℕ → ℕ → ℕ = λ c k. one (eqb (colour_at colours k) c && eqb (move_at input k) m) in
    let kept : shift_count (filter is_filled rows) m ≡ sum_by f rows = sum_by-filter f is_filled rows ∙ sum_by-same_each (λ row. cond (is_filled row) (f row) 0) f rows (λ k d l. empty_counts (λ s. one (is_of m s)) (get_or rows k d)) in
    let each : sum_by (λ c. f (colour_row input targets colours c M)) (range_with_len 0 n) ≡ sum_by (λ c. sum_by (q c) (range_with_len 0 M)) (range_with_len 0 n) =
    sum_by-same_each (λ c. f (colour_row input targets colours c M)) (λ c. sum_by (q c) (range_with_len 0 M)) (range_with_len 0 n)
    (λ i d l. sum_by-map (λ s. one (is_of m s)) (move_shift input targets) (edges_of colours (get_or (range_with_len 0 n) i d) M) ∙ count_by-filter (λ k. eqb (move_at input k) m) (λ k. eqb (colour_at colours k) (get_or (range_with_len 0 n) i d)) (range_with_len 0 M)) in
    let turned = sum_by-swap q (range_with_len 0 n) (range_with_len 0 M) in
    let single : sum_by (λ k. sum_by (λ c. q c k) (range_with_len 0 n)) (range_with_len 0 M) ≡ sum_by (λ k. one (eqb (move_at input k) m)) (range_with_len 0 M) =
    sum_by-same_each (λ k. sum_by (λ c. q c k) (range_with_len 0 n)) (λ k. one (eqb (move_at input k) m)) (range_with_len 0 M)
    (λ i d l. (let k = get_or (range_with_len 0 M) i d in
    let is_i = in_range M i d (omega (arith, l, length-range_with_len 0 M)) in
    once_from (colour_at colours k) 0 n (eqb (move_at input k) m) (omega arith) (omega (arith, below k (record { 0 = 0 }) (omega (arith, is_i, l, len, length-range_with_len 0 M)))))) in
    kept ∙ sum_by-map f (λ c. colour_row input targets colours c M) (range_with_len 0 n) ∙ each ∙ turned ∙ single ∙ count_places (λ x. eqb x m) (moves input) ∙ once_in_moves input e h

-- the transfers of a row are those of its edges
transfer_of_move : (input : InputLists) (targets : List Spot) (e : ℕ) → AreTargets input targets → e < length (moves input) → transfer_of (move_shift input targets e) ≡ transfer_at (transfers input) e
transfer_of_move input targets e a h =
    let t = lowest_at input targets a e h in
    map_at (transfer input) (λ (x : Transfer). transfer_of (move_shift input targets e) ≡ x) (moves input) e (record { leaves = 0; reaches = 0 }) h
    (λ d. ap (λ (n : ℕ). let x : Transfer = record { leaves = source input (move_at input e); reaches = n } in x) t.on_disk ∙ ap (transfer input) (get_or_default (moves input) e 0 d h))

edges_below : (colours : List Colour) (c m : ℕ) → All (λ e. e < m) (edges_of colours c m)
edges_below colours c m = All-filter (λ e. eqb (colour_at colours e) c) (λ e. e < m) (range_with_len 0 m) (range_below m)

map_map : {X Y Z : Type 0} (f : Y → Z) (g : X → Y) (xs : List X) → map f (map g xs) ≡ map (λ x. f (g x)) xs
map_map f g [] = refl
map_map {X} {Y} {Z} f g (x ∷ xs) = ap (λ (zs : List Z). f (g x) ∷ zs) (map_map f g xs)

row_transfers : (input : InputLists) (targets : List Spot) (colours : List Colour) (c : ℕ) → AreTargets input targets → map transfer_of (colour_row input targets colours c (length (moves input))) ≡ map (transfer_at (transfers input)) (edges_of colours c (length (moves input)))
row_transfers input targets colours c a =
    let E = edges_of colours c (length (moves input)) in
    map_map transfer_of (move_shift input targets) E ∙ map_same (λ e. transfer_of (move_shift input targets e)) (transfer_at (transfers input)) E (λ k d h. transfer_of_move input targets (get_or E k d) a (edges_below colours c (length (moves input)) k d h))

filled_some : (row : List Shift) → is_filled row ≡ true → 0 < length row
filled_some [] h = absurd (Rattle.std.proofs.lemmas.Bool.false≢true h)
filled_some (s ∷ ss) h = omega arith

pub is_partition : (input : InputLists) (targets : List Spot) (colours : List Colour) (n : ℕ) → AreTargets input targets → IsLimited (transfer_graph input) n colours → IsPartition input targets (filter is_filled (rows_for input targets colours n (length (moves input))))
is_partition input targets colours n a x =
    let M = length (moves input) in
    let same : length (transfers input) ≡ M = length-map (moves input) (transfer input) in
    let rows = rows_for input targets colours n M in
    let of_rows : (P : List Shift → Type 0) → ((c : ℕ) → P (colour_row input targets colours c M)) → All P (filter is_filled rows) = λ P p. All-filter is_filled P rows (All-map P (λ c. colour_row input targets colours c M) (range_with_len 0 n) (λ k d h. p (get_or (range_with_len 0 n) k d))) in
    record {
      filled = λ k d h. filled_some (get_or (filter is_filled rows) k d) (filter_passes is_filled rows k d h);
      shifts = of_rows (λ row. All (IsMoveShift input targets) row) (λ c. All-map (IsMoveShift input targets) (move_shift input targets) (edges_of colours c M) (λ k d h. (get_or (edges_of colours c M) k d, edges_below colours c M k d h, refl)));
      once = λ e h. shift_once input targets colours n e (x.one_each ∙ same) x.below h;
      limits = of_rows (λ row. KeepsLimits input.disks (map transfer_of row)) (λ c. subst (λ (ts : List Transfer). KeepsLimits input.disks ts) (sym (row_transfers input targets colours c a)) (subst (λ m. KeepsLimits input.disks (map (transfer_at (transfers input)) (edges_of colours c m))) same (x.within c)));
    }

pub few_rounds : (input : InputLists) (targets : List Spot) (colours : List Colour) (n m : ℕ) → length (filter is_filled (rows_for input targets colours n m)) ≤ n
few_rounds input targets colours n m =
    let rows = rows_for input targets colours n m in
    omega (arith, length-filter is_filled rows, count_by-le-length is_filled rows, length-map-range_with_len (λ c. colour_row input targets colours c m) 0 n)

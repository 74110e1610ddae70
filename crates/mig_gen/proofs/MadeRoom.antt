-- A made case has room for what comes to each disk.
use Rattle.mig_gen.proofs.Common.{Bool, DiskId, InputLists, IsRoomy, List, Spot, [], ap, arith, case_of, count_by, count_by-filter-le, eq-eqb, fill_by_all, flat_map, get_or, get_or-map-range_with_len}
use Rattle.mig_gen.proofs.Common.{incoming, is_relocated, items_on, length, length-map-range_with_len, length-range_with_len, made_disk, made_item, mul-le-mul_left, next_at, next_from, no_disk}
use Rattle.mig_gen.proofs.Common.{disks_besides, once_in_range, one, range_below, range_with_len, refl, replicate, spots_on, sum_by, sum_by-add, sum_by-append, sum_by-cons, sum_by-le, sum_by-map}
use Rattle.mig_gen.proofs.Common.{sum_by-replicate, sum_by-same_each, sym, target, ℕ, ◌*◌, ◌+◌, ◌-◌, ◌<◌, ◌==◌, ◌∙◌, ◌∷◌, ◌≡◌, ◌≤◌}
use Rattle.mig_gen.proofs.Grids.{range_split}
use Rattle.mig_gen.proofs.MadeLists.{next_are}

-- Counts

count_flat : {X Y : Type 0} (p : Y → Bool) (f : X → List Y) (xs : List X) → count_by p (flat_map f xs) ≡ sum_by (λ x. count_by p (f x)) xs
count_flat p f [] = refl
count_flat p f (x ∷ xs) = sum_by-append (λ y. one (p y)) (f x) (flat_map f xs) ∙ ap (λ n. count_by p (f x) + n) (count_flat p f xs) ∙ sym (sum_by-cons (λ x. count_by p (f x)) x xs)

scaled : {X : Type 0} (k : ℕ) (f : X → ℕ) (xs : List X) → sum_by (λ x. k * f x) xs ≡ k * sum_by f xs
scaled k f [] = omega arith
scaled k f (x ∷ xs) = omega (arith, sum_by-cons (λ x. k * f x) x xs, scaled k f xs, ap (λ n. k * n) (sum_by-cons f x xs))

constant : {X : Type 0} (c : ℕ) (xs : List X) → sum_by (λ _. c) xs ≡ length xs * c
constant c [] = omega arith
constant c (x ∷ xs) = omega (arith, sum_by-cons (λ _. c) x xs, constant c xs)

-- by the places of a list
count_places : {X : Type 0} (p : X → Bool) (xs : List X) (d : X) → count_by (λ k. p (get_or xs k d)) (range_with_len 0 (length xs)) ≡ count_by p xs
count_places p xs d =
    sym (sum_by-map (λ x. one (p x)) (λ k. get_or xs k d) (range_with_len 0 (length xs))) ∙ ap (count_by p) (sym (fill_by_all (λ k. get_or xs k d) xs (length xs) d refl (λ k lt. refl)))

-- How often a disk comes

-- among the disks other than one, and as that one: as often as among all
others_counted : (disks v w : ℕ) → w < disks → count_by (λ x. x == v) (disks_besides disks w) + one (w == v) ≡ count_by (λ x. x == v) (range_with_len 0 disks)
others_counted disks v w lt =
    let f : ℕ → ℕ = λ x. one (x == v) in
    let more = disks - (w + 1) in
    omega (arith, sum_by-append f (range_with_len 0 w) (range_with_len (w + 1) more), ap (sum_by f) (range_split disks w lt), sum_by-append f (range_with_len 0 w) (w ∷ range_with_len (w + 1) more), sum_by-cons f w (range_with_len (w + 1) more))

some_in_range : (disks v : ℕ) → v < disks → 1 ≤ count_by (λ x. x == v) (range_with_len 0 disks)
some_in_range disks v lt = omega (arith, others_counted disks v v lt, ap one (eq-eqb v v refl))

module _ (disks per_pair : ℕ) (v : ℕ) (lt : v < disks) where
  abbrev on_each : ℕ
  on_each = items_on disks per_pair

  -- the items of a disk are on it
  on_disk : (w : ℕ) → count_by (λ spot. spot.disk.0 == v) (spots_on on_each w) ≡ on_each * one (w == v)
  on_disk w =
      sum_by-map (λ (spot : Spot). one (spot.disk.0 == v)) (λ slot. record { disk = record { 0 = w }; slot = slot }) (range_with_len 0 on_each)
      ∙ constant (one (w == v)) (range_with_len 0 on_each) ∙ ap (λ n. n * one (w == v)) (length-range_with_len 0 on_each)

  pub are_present : count_by (λ spot. spot.disk.0 == v) (flat_map (spots_on on_each) (range_with_len 0 disks)) ≤ on_each
  are_present =
      let counted = count_flat (λ (spot : Spot). spot.disk.0 == v) (spots_on on_each) (range_with_len 0 disks) in
      let each = sum_by-same_each (λ w. count_by (λ (spot : Spot). spot.disk.0 == v) (spots_on on_each w)) (λ w. on_each * one (w == v)) (range_with_len 0 disks) (λ k d within. on_disk (get_or (range_with_len 0 disks) k d)) in
      omega (arith, counted, each, scaled on_each (λ w. one (w == v)) (range_with_len 0 disks), mul-le-mul_left on_each (once_in_range 0 disks v))

  -- the items of another disk that go to it
  from_disk : (w : ℕ) → count_by (λ disk. disk.0 == v) (next_from disks per_pair w) ≡ per_pair * count_by (λ x. x == v) (disks_besides disks w)
  from_disk w =
      let q : DiskId → Bool = λ disk. disk.0 == v in
      count_flat q (λ x. replicate per_pair (record { 0 = x })) (disks_besides disks w)
      ∙ sum_by-same_each (λ x. count_by q (replicate per_pair (record { 0 = x }))) (λ x. per_pair * one (x == v)) (disks_besides disks w) (λ k d within. sum_by-replicate (λ (disk : DiskId). one (q disk)) per_pair (record { 0 = get_or (disks_besides disks w) k d }))
      ∙ scaled per_pair (λ x. one (x == v)) (disks_besides disks w)

  come_from : sum_by (λ w. count_by (λ x. x == v) (disks_besides disks w)) (range_with_len 0 disks) ≤ disks - 1
  come_from =
      let f : ℕ → ℕ = λ w. count_by (λ x. x == v) (disks_besides disks w) in
      let g : ℕ → ℕ = λ w. one (w == v) in
      let each = sum_by-le (λ w. f w + g w) 1 (range_with_len 0 disks) (λ k d within. let here = range_below disks k d within in omega (arith, others_counted disks v (get_or (range_with_len 0 disks) k d) here, once_in_range 0 disks v)) in
      omega (arith, each, sum_by-add f g (range_with_len 0 disks), length-range_with_len 0 disks, some_in_range disks v lt)

  pub are_coming : count_by (λ disk. disk.0 == v) (flat_map (next_from disks per_pair) (range_with_len 0 disks)) ≤ on_each
  are_coming =
      let q : DiskId → Bool = λ disk. disk.0 == v in
      let counted = count_flat q (next_from disks per_pair) (range_with_len 0 disks) in
      let each = sum_by-same_each (λ w. count_by q (next_from disks per_pair w)) (λ w. per_pair * count_by (λ x. x == v) (disks_besides disks w)) (range_with_len 0 disks) (λ k d within. from_disk (get_or (range_with_len 0 disks) k d)) in
      omega (arith, counted, each, scaled per_pair (λ w. count_by (λ x. x == v) (disks_besides disks w)) (range_with_len 0 disks), mul-le-mul_left per_pair come_from)

module _ (disks per_pair limit : ℕ) where
  abbrev input : InputLists
  input = case_of disks per_pair limit

  comes : (v : ℕ) → v < disks → incoming input v ≤ items_on disks per_pair
  comes v lt =
      let p : ℕ → Bool = λ item. target input item == v in
      let len : length input.items ≡ length input.next = length-map-range_with_len made_item 0 (disks * items_on disks per_pair) ∙ sym (ap length (next_are disks per_pair) ∙ length-map-range_with_len (next_at (items_on disks per_pair) per_pair) 0 (disks * items_on disks per_pair)) in
      let fewer = count_by-filter-le p (is_relocated input) (range_with_len 0 (length input.items)) in
      omega (arith, fewer, ap (λ n. count_by p (range_with_len 0 n)) len, count_places (λ (disk : DiskId). disk.0 == v) input.next (record { 0 = 0 }), are_coming disks per_pair v lt)

  pub has_room : IsRoomy input
  has_room v within =
      let lt : v < disks = omega (arith, within, length-map-range_with_len (made_disk limit (2 * items_on disks per_pair)) 0 disks) in
      let disk = get_or-map-range_with_len (made_disk limit (2 * items_on disks per_pair)) 0 disks v v no_disk lt (omega arith) in
      omega (arith, comes v lt, are_present disks per_pair v lt, ap (λ d. d.slots) disk)

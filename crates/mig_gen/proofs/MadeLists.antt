-- The lists of a made case by the numbers of their elements.
use Rattle.mig_gen.proofs.Common.{All, AllPairs, DiskId, List, ap, arith, cases_lt, cond, flat_map, flat_map-map, get_or, get_or-map-range_with_len, inl, inr, items_on, le-ltb, length}
use Rattle.mig_gen.proofs.Common.{disks_besides, length-map-range_with_len, lt-ltb, map, map_more, next_at, next_from, numbered_spot, other, range_with_len, refl, replicate, spots_on, subst, suc, sym, zero}
use Rattle.mig_gen.proofs.Common.{ℕ, ◌*◌, ◌++◌, ◌+◌, ◌-◌, ◌/◌, ◌<◌, ◌∙◌, ◌∷◌, ◌≡◌, ◌≤◌}
use Rattle.mig_gen.proofs.Grids.{rows_are}

-- What is so of each number is so of each element, and the same of two

module _ {X : Type 0} (f : ℕ → X) (n : ℕ) where
  at : (i : ℕ) (d : X) → i < length (map f (range_with_len 0 n)) → get_or (map f (range_with_len 0 n)) i d ≡ f i
  at i d lt = let below : i < n = omega (arith, length-map-range_with_len f 0 n, lt) in get_or-map-range_with_len f 0 n i i d below (omega arith)

  pub all_of : (P : X → Type 0) → ((i : ℕ) → i < n → P (f i)) → All P (map f (range_with_len 0 n))
  all_of P h i d lt = subst P (sym (at i d lt)) (h i (omega (arith, length-map-range_with_len f 0 n, lt)))

  pub pairs_of : (R : X → X → Type 0) → ((i j : ℕ) → i < j → j < n → R (f i) (f j)) → AllPairs R (map f (range_with_len 0 n))
  pairs_of R h i j d lt within =
      let below : j < n = omega (arith, length-map-range_with_len f 0 n, within) in
      subst (λ x. R x (get_or (map f (range_with_len 0 n)) j d)) (sym (at i d (omega (arith, lt, within)))) (subst (R (f i)) (sym (at j d within)) (h i j lt below))

-- Where things go

-- numbers that follow one another
follow_on : (f : ℕ → ℕ) (a b n : ℕ) → ((k : ℕ) → k < n → f (a + k) ≡ b + k) → map f (range_with_len a n) ≡ range_with_len b n
follow_on f a b zero h = refl
follow_on f a b (suc n) h =
    let here : f a ≡ b = let from : a + 0 ≡ a = omega arith in ap f (sym from) ∙ h 0 (omega arith) ∙ omega arith in
    let rest = follow_on f (a + 1) (b + 1) n (λ k lt. let from : a + 1 + k ≡ a + suc k = omega arith in ap f from ∙ h (suc k) (omega arith) ∙ omega arith) in
    ap (λ x. x ∷ map f (range_with_len (a + 1) n)) here ∙ ap (λ xs. b ∷ xs) rest

other_low : (v k : ℕ) → k < v → other v k ≡ k
other_low v k lt = ap (λ b. cond b k (k + 1)) (lt-ltb k v lt)

other_high : (v k : ℕ) → v ≤ k → other v k ≡ k + 1
other_high v k le = ap (λ b. cond b k (k + 1)) (le-ltb k v le)

pub other_low_high : (v k : ℕ) → other v k ≤ k + 1
other_low_high v k = elim (cases_lt k v) [ inl lt ↦ omega (arith, other_low v k lt) | inr le ↦ omega (arith, other_high v k le) ]

others_are : (disks v : ℕ) → v < disks → disks_besides disks v ≡ map (other v) (range_with_len 0 (disks - 1))
others_are disks v lt =
    let more = disks - (v + 1) in
    let len : v + more ≡ disks - 1 = omega arith in
    let low = follow_on (other v) 0 0 v (λ k below. other_low v (0 + k) (omega arith) ∙ omega arith) in
    let high = follow_on (other v) (0 + v) (v + 1) more (λ k below. other_high v (0 + v + k) (omega arith) ∙ omega arith) in
    sym (ap (λ n. map (other v) (range_with_len 0 n)) (sym len) ∙ map_more (other v) 0 v more ∙ ap (λ xs. map (other v) (range_with_len 0 v) ++ xs) high ∙ ap (λ xs. xs ++ range_with_len (v + 1) more) low)

-- the same element again and again
again : {X : Type 0} (x : X) (a n : ℕ) → replicate n x ≡ map (λ _. x) (range_with_len a n)
again x a zero = refl
again x a (suc n) = ap (λ xs. x ∷ xs) (again x (a + 1) n)

flat_map_same : {X : Type 0} (f g : ℕ → List X) (a n : ℕ) → ((k : ℕ) → k < a + n → f k ≡ g k) → flat_map f (range_with_len a n) ≡ flat_map g (range_with_len a n)
flat_map_same f g a zero h = refl
flat_map_same f g a (suc n) h = ap (λ xs. xs ++ flat_map f (range_with_len (a + 1) n)) (h a (omega arith)) ∙ ap (λ xs. g a ++ xs) (flat_map_same f g (a + 1) n (λ k lt. h k (omega arith)))

abbrev disk_number : ℕ → DiskId
disk_number w = record { 0 = w }

next_from_are : (disks per_pair v : ℕ) → v < disks → next_from disks per_pair v ≡ map (λ s. disk_number (other v (s / per_pair))) (range_with_len 0 (items_on disks per_pair))
next_from_are disks per_pair v lt =
    let step : ℕ → List DiskId = λ w. replicate per_pair (disk_number w) in
    ap (flat_map step) (others_are disks v lt) ∙ flat_map-map step (other v) (range_with_len 0 (disks - 1))
    ∙ flat_map_same (λ k. step (other v k)) (λ k. map (λ _. disk_number (other v k)) (range_with_len 0 per_pair)) 0 (disks - 1) (λ k below. again (disk_number (other v k)) 0 per_pair)
    ∙ rows_are (λ k s. disk_number (other v k)) per_pair (disks - 1)

-- the two lists by number
module _ (disks per_pair : ℕ) where
  pub spots_are : flat_map (spots_on (items_on disks per_pair)) (range_with_len 0 disks) ≡ map (numbered_spot (items_on disks per_pair)) (range_with_len 0 (disks * items_on disks per_pair))
  spots_are = rows_are (λ v slot. record { disk = record { 0 = v }; slot = slot }) (items_on disks per_pair) disks

  pub next_are : flat_map (next_from disks per_pair) (range_with_len 0 disks) ≡ map (next_at (items_on disks per_pair) per_pair) (range_with_len 0 (disks * items_on disks per_pair))
  next_are =
      flat_map_same (next_from disks per_pair) (λ v. map (λ s. disk_number (other v (s / per_pair))) (range_with_len 0 (items_on disks per_pair))) 0 disks (λ v lt. next_from_are disks per_pair v (omega arith))
      ∙ rows_are (λ v s. disk_number (other v (s / per_pair))) (items_on disks per_pair) disks

-- Fewer copies in flight keep the limits of disks too.
use Rattle.mig_lanes.proofs.Common.{AreWithinLimits, Bool, Disk, Flight, List, [], arith, cond, count_by, count_by-filter-le, disk_at, filter, keeps_fewer, keeps_none, map, refl, suc, sum_by-append}
use Rattle.mig_lanes.proofs.Common.{take, transfer_of_flight, zero, ℕ, ◌+◌, ◌∷◌, ◌≡◌, ◌≤◌}

count_cons : {X : Type 0} (p : X → Bool) (x : X) (xs : List X) → count_by p (x ∷ xs) ≡ cond (p x) 1 0 + count_by p xs
count_cons p x xs = let e = sum_by-append (λ y. cond (p y) 1 0) (x ∷ []) xs in omega arith

count_take : {X : Type 0} (p : X → Bool) (m : ℕ) (xs : List X) → count_by p (take m xs) ≤ count_by p xs
count_take p zero xs = omega arith
count_take p (suc m) [] = omega arith
count_take p (suc m) (x ∷ xs) = let rest = count_take p m xs in omega (arith, count_cons p x (take m xs), count_cons p x xs, rest)

count_map : {X Y : Type 0} (p : Y → Bool) (f : X → Y) (xs : List X) → count_by p (map f xs) ≡ count_by (λ x. p (f x)) xs
count_map p f [] = refl
count_map p f (x ∷ xs) = let rest = count_map p f xs in omega (arith, count_cons p (f x) (map f xs), count_cons (λ y. p (f y)) x xs, rest)

module _ (disks : List Disk) where
  -- of each kind there are no more than before
  pub fewer_within : (fs gs : List Flight) → ((p : Flight → Bool) → count_by p fs ≤ count_by p gs) → AreWithinLimits disks gs → AreWithinLimits disks fs
  fewer_within fs gs fewer within v lt =
      keeps_fewer (disk_at disks v).limits v (map (transfer_of_flight disks) fs) (map (transfer_of_flight disks) gs)
      (λ p. omega (arith, fewer (λ c. p (transfer_of_flight disks c)), count_map p (transfer_of_flight disks) fs, count_map p (transfer_of_flight disks) gs)) (within v lt)

  pub none_within : AreWithinLimits disks []
  none_within v lt = keeps_none (disk_at disks v).limits v

  pub first_within : (n : ℕ) (fs : List Flight) → AreWithinLimits disks fs → AreWithinLimits disks (take n fs)
  first_within n fs = fewer_within (take n fs) fs (λ p. count_take p n fs)

  pub some_within : (q : Flight → Bool) (fs : List Flight) → AreWithinLimits disks fs → AreWithinLimits disks (filter q fs)
  some_within q fs = fewer_within (filter q fs) fs (λ p. count_by-filter-le p q fs)

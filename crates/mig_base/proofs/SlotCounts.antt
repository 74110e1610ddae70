-- As many items as a disk has slots are on it, at most.
use Rattle.mig_base.proofs.Common.{All, AreDifferent, Bool, Disk, InputLists, IsInput, IsSomeAnd, IsSpotOf, List, Spot, [], arith, cases_eq, count_by, disk_at, eqb, get_or, inl, inr, length, ltb}
use Rattle.mig_base.proofs.Common.{nat_tests, present, slice_get, subst, suc, sym, true, zero, ℕ, ◌&&◌, ◌+◌, ◌<◌, ◌∙◌, ◌∷◌, ◌≡◌, ◌≤◌}
use Rattle.mig_base.proofs.Copies.{count_by-le-one}
use Rattle.mig_base.proofs.Counting.{one, sum_by-add, sum_by-le_each, sum_by-none}
use Rattle.mig_base.proofs.SameIds.{spot_by}

-- a spot's slot is below the slots of its disk
pub spot_slot : (disks : List Disk) (spot : Spot) → IsSpotOf disks spot → spot.slot < (disk_at disks spot.disk.0).slots
spot_slot disks spot is = at disks spot.disk.0 is
  where
    at : (ds : List Disk) (k : ℕ) → IsSomeAnd (slice_get ds k) (λ (d : Disk). spot.slot < d.slots) → spot.slot < (disk_at ds k).slots
    at [] k h = absurd h
    at (d ∷ ds) zero h = h
    at (d ∷ ds) (suc k) h = at ds k h

pub spot_is_of : (disks : List Disk) (spot : Spot) → spot.disk.0 < length disks → spot.slot < (disk_at disks spot.disk.0).slots → IsSpotOf disks spot
spot_is_of disks spot there less = at disks spot.disk.0 there less
  where
    at : (ds : List Disk) (k : ℕ) → k < length ds → spot.slot < (disk_at ds k).slots → IsSomeAnd (slice_get ds k) (λ (d : Disk). spot.slot < d.slots)
    at [] k there less = absurd (omega (arith, there))
    at (d ∷ ds) zero there less = less
    at (d ∷ ds) (suc k) there less = at ds k (omega (arith, there)) less

-- a spot of the disk at a slot below n
abbrev pub under : ℕ → ℕ → Spot → Bool
under d n s = eqb s.disk.0 d && ltb s.slot n

abbrev at_slot : ℕ → ℕ → Spot → Bool
at_slot d n s = eqb s.disk.0 d && eqb s.slot n

none_under : (b : Bool) (m : ℕ) → one (b && ltb m 0) ≤ 0
none_under b m = grind (arith, nat_tests)

pub one_more : (b : Bool) (m n : ℕ) → one (b && ltb m (suc n)) ≡ one (b && ltb m n) + one (b && eqb m n)
one_more b m n = grind (arith, nat_tests)

both : (a d m n : ℕ) → eqb a d && eqb m n ≡ true → (a ≡ d) × (m ≡ n)
both a d m n h = (grind (arith, nat_tests), grind (arith, nat_tests))

under_few : (d n : ℕ) (xs : List Spot) → AreDifferent xs → count_by (under d n) xs ≤ n
under_few d zero xs apart = omega (arith, sum_by-le_each (λ (s : Spot). one (under d 0 s)) (λ s. 0) xs (λ k e l. none_under (eqb (get_or xs k e).disk.0 d) (get_or xs k e).slot), sum_by-none xs)
under_few d (suc n) xs apart =
    let f : Spot → ℕ = λ s. one (at_slot d n s) in
    let all = sum_by-le_each (λ (s : Spot). one (under d (suc n) s)) (λ s. one (under d n s) + f s) xs (λ k e l.
    omega (arith, one_more (eqb (get_or xs k e).disk.0 d) (get_or xs k e).slot n)) in
    let split = sum_by-add (λ (s : Spot). one (under d n s)) f xs in
    let here = count_by-le-one (at_slot d n) xs (λ i j e l m h g. apart i j e l m (same (get_or xs i e) (get_or xs j e) h g)) in
    omega (arith, all, split, here, under_few d n xs apart)
  where
    same : (s t : Spot) → at_slot d n s ≡ true → at_slot d n t ≡ true → s ≡ t
    same s t h g =
        let a = both s.disk.0 d s.slot n h in
        let b = both t.disk.0 d t.slot n g in
        spot_by s t (a.0 ∙ sym b.0) (a.1 ∙ sym b.1)

-- different spots of a disk are as many as it has slots, at most
pub pigeons_above : (d n : ℕ) (xs : List Spot) → AreDifferent xs → All (λ s. s.disk.0 ≡ d → s.slot < n) xs → count_by (λ s. eqb s.disk.0 d) xs ≤ n
pigeons_above d n xs apart low =
    omega (arith, under_few d n xs apart, sum_by-le_each (λ (s : Spot). one (eqb s.disk.0 d)) (λ s. one (under d n s)) xs (λ k e l. less (get_or xs k e).disk.0 (get_or xs k e).slot (low k e l)))
  where
    less : (a m : ℕ) → (a ≡ d → m < n) → one (eqb a d) ≤ one (eqb a d && ltb m n)
    less a m h = elim (cases_eq a d) [
      | inl e ↦ let lt = h e in grind (arith, nat_tests)
      | inr ne ↦ grind (arith, nat_tests)
    ]

pub present_fits : (input : InputLists) (v : ℕ) → IsInput input → present input v ≤ (disk_at input.disks v).slots
present_fits input v is =
    pigeons_above v (disk_at input.disks v).slots input.spots is.spots_apart (λ k e l at.
    subst (λ w. (get_or input.spots k e).slot < (disk_at input.disks w).slots) at (spot_slot input.disks (get_or input.spots k e) (is.on_disks k e l)))

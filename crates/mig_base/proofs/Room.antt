-- Where each disk has room, a slot is free for each item that comes: as many slots as a disk has can't all be taken.
use Rattle.mig_base.proofs.Common.{AreTargets, Bool, Contains, InputLists, IsInput, IsLowestFree, IsRoomy, IsSpotOf, List, Spot, ap, arith, cases_lt}
use Rattle.mig_base.proofs.Common.{count_by, disk_at, eq-eqb, eqb, get_or, get_or-le-sum_by, get_or-take, incoming, inl, inr, length, length-take-le}
use Rattle.mig_base.proofs.Common.{ltb, move_at, moves, nat_tests, no_spot, present, refl, slice_get-get_or, subst, suc, sum_by-append}
use Rattle.mig_base.proofs.Common.{sum_by-take-le, sum_by_push, sym, take, take_more, target, target_at, zero, ℕ, ◌&&◌, ◌++◌, ◌+◌, ◌<◌, ◌∙◌, ◌≡◌, ◌≤◌}
use Rattle.mig_base.proofs.Counting.{one, sum_by-le_each, sum_by-add, count_same}
use Rattle.mig_base.proofs.Scheduled.{moves_there}
use Rattle.mig_base.proofs.SlotCounts.{one_more, spot_is_of, under}

abbrev pub spot : ℕ → ℕ → Spot
spot v s = record { disk = record { 0 = v }; slot = s }

itself : (d n : ℕ) → one (eqb d d && eqb n n) ≡ 1
itself d n = grind (arith, nat_tests)

fills : (d n : ℕ) (xs : List Spot) → ((k : ℕ) → k < n → Contains xs (spot d k)) → n ≤ count_by (under d n) xs
fills d zero xs h = omega arith
fills d (suc n) xs h =
    let last = h n (omega arith) in
    let f : Spot → ℕ = λ s. one (eqb s.disk.0 d && eqb s.slot n) in
    let here = get_or-le-sum_by f xs last.0 (spot d n) last.1 in
    let is : f (get_or xs last.0 (spot d n)) ≡ 1 = ap f last.2 ∙ itself d n in
    let all = sum_by-le_each (λ s. one (under d n s) + f s) (λ s. one (under d (suc n) s)) xs (λ k e l.
    omega (arith, one_more (eqb (get_or xs k e).disk.0 d) (get_or xs k e).slot n)) in
    let split = sum_by-add (λ s. one (under d n s)) f xs in
    omega (arith, fills d n xs (λ k l. h k (omega arith)), here, is, all, split)

-- where the list has each slot of a disk below n, it has n spots of the disk
pub pigeons : (d n : ℕ) (xs : List Spot) → ((k : ℕ) → k < n → Contains xs (spot d k)) → n ≤ count_by (λ s. eqb s.disk.0 d) xs
pigeons d n xs h = omega (arith, fills d n xs h, sum_by-le_each (λ (s : Spot). one (under d n s)) (λ s. one (eqb s.disk.0 d)) xs (λ k e l. less (eqb (get_or xs k e).disk.0 d) (ltb (get_or xs k e).slot n)))
  where
    less : (a b : Bool) → one (a && b) ≤ one a
    less a b = grind (arith, nat_tests)

-- The spots that the moves before this one are given, and those that items have, leave one of so many slots of its disk
pub some_free : (input : InputLists) (move : ℕ) (earlier : List Spot) (v slots : ℕ) → present input v + incoming input v ≤ slots → move < length (moves input) → length earlier ≡ move → ((k : ℕ) → k < move → (target_at earlier k).disk.0 ≡ target input (move_at input k)) → target input (move_at input move) ≡ v → ((s : ℕ) → s < slots → Contains (input.spots ++ earlier) (spot v s)) → ⊥
some_free input move earlier v slots room h len disks here full =
    let on : Spot → ℕ = λ s. one (eqb s.disk.0 v) in
    let goes : ℕ → Bool = λ m. eqb (target input m) v in
    let first = take move (moves input) in
    let short : length first ≡ move = length-take-le move (moves input) (omega (arith, h)) in
    let many = pigeons v slots (input.spots ++ earlier) full in
    let same = count_same (λ (s : Spot). eqb s.disk.0 v) goes no_spot 0 earlier first (omega (arith, len, short)) (λ k l. ap (λ n. eqb n v) (disks k (omega (arith, l, len))) ∙ ap goes (sym (get_or-take move (moves input) k 0 (omega (arith, l, len))))) in
    let more : count_by goes (take (move + 1) (moves input)) ≡ count_by goes first + 1 = ap (count_by goes) (take_more (moves input) move 0 h) ∙ sum_by_push (λ m. one (goes m)) first (move_at input move) ∙ ap (λ b. count_by goes first + one b) (eq-eqb (target input (move_at input move)) v here) in
    absurd (omega (arith, room, many, sum_by-append on input.spots earlier, same, more, sum_by-take-le (λ m. one (goes m)) (moves input) (move + 1)))

module _ (input : InputLists) (targets : List Spot) (a : AreTargets input targets) where
  -- the spot that a move is given
  pub lowest_at : (move : ℕ) → move < length (moves input) → IsLowestFree (input.spots ++ take move targets) (target input (move_at input move)) (target_at targets move)
  lowest_at move h = a.each move (move_at input move) (target_at targets move) (slice_get-get_or (moves input) move 0 h) (slice_get-get_or targets move no_spot (omega (arith, h, a.len)))

  -- is a slot of its disk
  pub target_on_disk : IsInput input → IsRoomy input → (move : ℕ) → move < length (moves input) → IsSpotOf input.disks (target_at targets move)
  target_on_disk is roomy move h =
      let t = lowest_at move h in
      let v = target input (move_at input move) in
      let item : move_at input move < length input.items = moves_there input move 0 h in
      let there : v < length input.disks = is.next_disks (move_at input move) (record { 0 = 0 }) (omega (arith, item, is.next_len)) in
      let slots = (disk_at input.disks v).slots in
      let short : length (take move targets) ≡ move = length-take-le move targets (omega (arith, h, a.len)) in
      elim (cases_lt (target_at targets move).slot slots) [
        | inl less ↦ spot_is_of input.disks (target_at targets move) (omega (arith, there, t.on_disk)) (
            subst (λ w. (target_at targets move).slot < (disk_at input.disks w).slots) (sym t.on_disk) less)
        | inr ge ↦ absurd (some_free input move (take move targets) v slots (roomy v there) h short
            (λ k l. ap (λ (s : Spot). s.disk.0) (get_or-take move targets k no_spot l) ∙ (lowest_at k (omega (arith, l, h))).on_disk)
            refl
            (λ s l. subst (λ (d : ℕ). Contains (input.spots ++ take move targets) (spot d s)) t.on_disk (t.lowest s (omega (arith, l, ge)))))
      ]

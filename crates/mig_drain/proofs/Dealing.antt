-- Items that are dealt to the other disks empty their disk, in as many rounds as are enough.
use Rattle.mig_drain.proofs.Common.{All, All-append, All-from_get_or, All-head, All-map, All-replicate, All-tail, AreDealt, AreEnough, Bool, DiskId, Empties, Incoming, IsInput, IsTwoSided, List}
use Rattle.mig_drain.proofs.Common.{InputLists, Outgoing, PlansHave, Spot, TwoSides, [], ap, arith, can_take, cases_eq, count_by, count_by-filter}
use Rattle.mig_drain.proofs.Common.{count_by-filter-le}
use Rattle.mig_drain.proofs.Common.{count_by_more_no, count_by_more_yes, differ, disk_at, div_ceil_times, eq-eqb, eqb, eqb-true, false, false≢true, filter_passes, flat_map, get_or}
use Rattle.mig_drain.proofs.Common.{get_or-range_with_len, get_or-take, incoming, incoming_limit, inl, inr, is_other, is_relocated, length, length-append, length-range_with_len, length-replicate}
use Rattle.mig_drain.proofs.Common.{limits_at, moves, moves_there, mul-le-mul_right, ne_eqb, no_spot, none_pass, not, one, others, others_can_take, outgoing_limit, places, present, quotient}
use Rattle.mig_drain.proofs.Common.{range_more, range_with_len, rank, refl, replicate, side_load, side_positive, source, spot_disk, subst, suc, sum_by, sum_by-append, sum_by-cons, sum_by-le_each}
use Rattle.mig_drain.proofs.Common.{sum_by-take-le, sum_by_more, sum_by_more_le, sum_by_push, sym, take, target, transfer_graph, transfer, transfers}
use Rattle.mig_drain.proofs.Common.{true, with_next, zero, ℕ, ◌&&◌, ◌*◌, ◌++◌, ◌+◌, ◌<◌, ◌∙◌, nat_tests, ◌∷◌, ◌≡◌, ◌≢◌, ◌≤◌, ◌⊎◌}
use Rattle.mig_drain.proofs.Emptying.{enough, other_below, other_not, present_counted}
use Rattle.mig_drain.proofs.SideCounts.{leaving_counted, quotient_most, reaching_counted, rounds_few}
use Rattle.mig_base.proofs.Scheduled.{once_in_range}
use Rattle.mig_base.proofs.SlotCounts.{present_fits}

-- Numbers in a row, each so many times

abbrev times : (ℕ → ℕ) → ℕ → List ℕ
times f u = replicate (f u) u

-- what holds of each number holds then too
all_times : (P : ℕ → Type 0) (f : ℕ → ℕ) (us : List ℕ) → All P us → All P (flat_map (times f) us)
all_times P f [] h = λ k d l. absurd (omega (arith, l))
all_times P f (u ∷ us) h = All-append P (replicate (f u) u) (flat_map (times f) us) (All-replicate P (f u) u (All-head P u us h)) (all_times P f us (All-tail P u us h))

length_times : (f : ℕ → ℕ) (us : List ℕ) → length (flat_map (times f) us) ≡ sum_by f us
length_times f [] = refl
length_times f (u ∷ us) = omega (arith, length-append (replicate (f u) u) (flat_map (times f) us), length-replicate {A = ℕ} (f u) u, length_times f us, sum_by-cons f u us)

abbrev is_disk : ℕ → ℕ → Bool
is_disk u w = eqb w u

count_replicate : (n w u : ℕ) → count_by (is_disk u) (replicate n w) ≡ n * one (eqb w u)
count_replicate zero w u = omega arith
count_replicate (suc n) w u = omega (arith, sum_by-cons (λ d. one (is_disk u d)) w (replicate n w), count_replicate n w u)

times_one : (f : ℕ → ℕ) (u w : ℕ) (b : Bool) → eqb w u ≡ b → f w * one (eqb w u) ≤ one (eqb w u) * f u
times_one f u w true e = rw (e, eqb-true w u e) (omega arith)
times_one f u w false e = rw e (omega arith)

-- a number is there as often as it is listed, times its number of times
count_times : (f : ℕ → ℕ) (us : List ℕ) (u : ℕ) → count_by (is_disk u) (flat_map (times f) us) ≤ count_by (is_disk u) us * f u
count_times f [] u = omega arith
count_times f (w ∷ ws) u =
    let B : List ℕ = replicate (f w) w in
    let C : List ℕ = flat_map (times f) ws in
    let cut : count_by (is_disk u) (B ++ C) ≡ count_by (is_disk u) B + count_by (is_disk u) C = sum_by-append (λ d. one (is_disk u d)) B C in
    let head : count_by (is_disk u) (w ∷ ws) ≡ one (eqb w u) + count_by (is_disk u) ws = sum_by-cons (λ x. one (eqb x u)) w ws in
    join (count_by (is_disk u) (B ++ C)) (count_by (is_disk u) B) (count_by (is_disk u) C) (f w * one (eqb w u)) (f u) (one (eqb w u)) (count_by (is_disk u) ws) (count_by (is_disk u) (w ∷ ws)) cut (count_replicate (f w) w u) (times_one f u w (eqb w u) refl) (count_times f ws u) head
  where
    join : (bc b c m t o n all : ℕ) → bc ≡ b + c → b ≡ m → m ≤ o * t → c ≤ n * t → all ≡ o + n → bc ≤ all * t
    join bc b c m t o n all cut rep less rest head = omega (arith, cut, rep, less, rest, ap (λ k. k * t) head)

-- The places

pub length-places : (input : InputLists) (v r : ℕ) → length (places input v r) ≡ others_can_take input v r
length-places input v r = length_times (can_take input r) (others input v)

-- each disk is among them as often as it can take an item, at most
few_places : (input : InputLists) (v r u : ℕ) → count_by (is_disk u) (places input v r) ≤ can_take input r u
few_places input v r u =
    let range = range_with_len 0 (length input.disks) in
    let in_range : count_by (is_disk u) range ≤ 1 = once_in_range 0 (length input.disks) u in
    let once : count_by (is_disk u) (others input v) ≤ 1 = omega (arith, count_by-filter-le (is_disk u) (is_other v) range, in_range) in
    below (count_by (is_disk u) (others input v)) (can_take input r u) (count_by (is_disk u) (places input v r)) once (count_times (can_take input r) (others input v) u)
  where
    below : (c t b : ℕ) → c ≤ 1 → b ≤ c * t → b ≤ t
    below zero t b l h = omega (arith, h)
    below (suc zero) t b l h = omega (arith, h)
    below (suc (suc c)) t b l h = absurd (omega (arith, l))

-- How many items before the next one are on the disk

pub rank_more : (input : InputLists) (v k : ℕ) → k < length input.spots → source input k ≡ v → rank input v (k + 1) ≡ rank input v k + 1
rank_more input v k l at = count_by_more_yes (λ (s : Spot). eqb s.disk.0 v) input.spots k no_spot l (eq-eqb (source input k) v at)

pub rank_stays : (input : InputLists) (v k : ℕ) → k < length input.spots → source input k ≢ v → rank input v (k + 1) ≡ rank input v k
rank_stays input v k l ne = count_by_more_no (λ (s : Spot). eqb s.disk.0 v) input.spots k no_spot l (ne_eqb (source input k) v ne)

pub rank_less : (input : InputLists) (v k : ℕ) → k < length input.spots → source input k ≡ v → rank input v k < present input v
rank_less input v k l at = omega (arith, sum_by_more_le (λ (s : Spot). one (eqb s.disk.0 v)) input.spots k no_spot l, ap one (eq-eqb (source input k) v at))

-- items that are dealt to the first places are dealt to the places
pub dealt_first : (input : InputLists) (v n : ℕ) (disks : List ℕ) (next : List DiskId) → IsInput input → present input v ≤ n → AreDealt input v (take n disks) next → AreDealt input v disks next
dealt_first input v n disks next is few d = record {
  len = d.len;
  moved = λ item l at. d.moved item l at ∙ get_or-take n disks (rank input v item) 0 (omega (arith, few, rank_less input v item (omega (arith, l, is.spots_len)) at));
  stays = d.stays;
}

module _ (input : InputLists) (is : IsInput input) (v : ℕ) (there : v < length input.disks) (r : ℕ) (next : List DiskId) (d : AreDealt input v (places input v r) next) (e : AreEnough input v r) where
  spot_there : (item : ℕ) → item < length input.items → item < length input.spots
  spot_there item l = omega (arith, l, is.spots_len)

  -- an item of the disk has one of the places
  place_there : (item : ℕ) → item < length input.items → source input item ≡ v → rank input v item < length (places input v r)
  place_there item l at = omega (arith, rank_less input v item (spot_there item l) at, e.come, length-places input v r)

  -- what holds of the other disks and of those where the other items are holds of each next disk
  each_next : (P : ℕ → Type 0) → All P (others input v) → ((item : ℕ) → item < length input.items → source input item ≢ v → P (source input item)) → All (λ disk. P disk.0) next
  each_next P of_others of_stays = All-from_get_or (λ (disk : DiskId). P disk.0) next (record { 0 = 0 }) (λ item l.
      let h : item < length input.items = omega (arith, l, d.len) in
      elim (cases_eq (source input item) v) [
        | inl at ↦ subst P (sym (d.moved item h at)) (all_times P (can_take input r) (others input v) of_others (rank input v item) 0 (place_there item h at))
        | inr ne ↦ subst P (sym (d.stays item h ne)) (of_stays item h ne)
      ])

  next_there : All (λ disk. disk.0 < length input.disks) next
  next_there = each_next (λ w. w < length input.disks) (other_below input v) (λ item l ne. spot_disk input.disks (get_or input.spots item no_spot) (is.on_disks item no_spot (spot_there item l)))

  next_leaves : All (λ disk. disk.0 ≢ v) next
  next_leaves = each_next (λ w. w ≢ v) (other_not input v) (λ item l ne. ne)

  -- among the first items, those that go from the disk to another one are as many as that one among the first places
  goes_first : (u k : ℕ) → k ≤ length input.items → count_by (λ item. eqb (source input item) v && eqb (target (with_next input next) item) u) (range_with_len 0 k) ≡ count_by (is_disk u) (take (rank input v k) (places input v r))
  goes_first u zero le = refl
  goes_first u (suc k) le =
      let f : ℕ → ℕ = λ item. one (eqb (source input item) v && eqb (target (with_next input next) item) u) in
      let g : ℕ → ℕ = λ w. one (is_disk u w) in
      let B = places input v r in
      let l : k < length input.items = omega (arith, le) in
      let s : suc k ≡ k + 1 = omega arith in
      let left : sum_by f (range_with_len 0 (suc k)) ≡ sum_by f (range_with_len 0 k) + f k = ap (λ n. sum_by f (range_with_len 0 n)) s ∙ ap (sum_by f) (range_more k) ∙ sum_by_push f (range_with_len 0 k) k in
      let ranks : rank input v (suc k) ≡ rank input v (k + 1) = ap (rank input v) s in
      let before = goes_first u k (omega (arith, le)) in
      elim (cases_eq (source input k) v) [
        | inl at ↦
            let one_more : rank input v (suc k) ≡ rank input v k + 1 = ranks ∙ rank_more input v k (spot_there k l) at in
            let right : sum_by g (take (rank input v (suc k)) B) ≡ sum_by g (take (rank input v k) B) + g (get_or B (rank input v k) 0) = ap (λ n. sum_by g (take n B)) one_more ∙ sum_by_more g B (rank input v k) 0 (place_there k l at) in
            omega (arith, left, right, before, ap (λ b. one (b && eqb (target (with_next input next) k) u)) (eq-eqb (source input k) v at), ap (λ n. one (true && eqb n u)) (d.moved k l at), same (eqb (get_or B (rank input v k) 0) u))
        | inr ne ↦
            let same_rank : rank input v (suc k) ≡ rank input v k = ranks ∙ rank_stays input v k (spot_there k l) ne in
            omega (arith, left, before, ap (λ b. one (b && eqb (target (with_next input next) k) u)) (ne_eqb (source input k) v ne), ap (λ n. sum_by g (take n B)) same_rank)
      ]
    where
      same : (b : Bool) → one (true && b) ≡ one b
      same true = refl
      same false = refl

  -- so no more come to a disk than it can take
  comes : (u item : ℕ) → item < length input.items → one (is_relocated (with_next input next) item && eqb (target (with_next input next) item) u) ≤ one (eqb (source input item) v && eqb (target (with_next input next) item) u)
  comes u item l = elim (cases_eq (source input item) v) [
    | inl at ↦ rw (eq-eqb (source input item) v at) (less (is_relocated (with_next input next) item) (eqb (target (with_next input next) item) u))
    | inr ne ↦ rw (ap not (eq-eqb (source input item) (target (with_next input next) item) (sym (d.stays item l ne)))) (omega arith)
  ]
    where
      less : (a b : Bool) → one (a && b) ≤ one (true && b)
      less a b = grind (arith, nat_tests)

  incoming_few : (u : ℕ) → incoming (with_next input next) u ≤ can_take input r u
  incoming_few u =
      let n = length input.items in
      let items = range_with_len 0 n in
      omega (
        arith,
        count_by-filter (λ item. eqb (target (with_next input next) item) u) (is_relocated (with_next input next)) items,
        sum_by-le_each (λ item. one (is_relocated (with_next input next) item && eqb (target (with_next input next) item) u)) (λ item. one (eqb (source input item) v && eqb (target (with_next input next) item) u)) items
            (λ k x l. let m : k < n = omega (arith, l, length-range_with_len 0 n) in comes u (get_or items k x) (omega (arith, m, get_or-range_with_len 0 n k x m))),
        goes_first u n (omega arith),
        sum_by-take-le (λ w. one (is_disk u w)) (places input v r) (rank input v n),
        few_places input v r u,
      )

  move_target : (k x : ℕ) → k < length (moves (with_next input next)) → target (with_next input next) (get_or (moves (with_next input next)) k x) ≢ v
  move_target k x l = next_leaves (get_or (moves (with_next input next)) k x) (record { 0 = 0 }) (omega (arith, moves_there (with_next input next) k x l, d.len))

  incoming_none : incoming (with_next input next) v ≡ 0
  incoming_none =
      let ms = moves (with_next input next) in
      none_pass (λ item. eqb (target (with_next input next) item) v) ms (λ k x l. ne_eqb (target (with_next input next) (get_or ms k x)) v (move_target k x l))

  pub empties : Empties input v next
  empties = record {
    len = d.len;
    there = next_there;
    leaves = next_leaves;
    roomy = λ u l. omega (arith, present_fits input u is, incoming_few u);
  }

  -- each move is from the disk to another one
  move_source : (k x : ℕ) → k < length (moves (with_next input next)) → source input (get_or (moves (with_next input next)) k x) ≡ v
  move_source k x l =
      let item = get_or (moves (with_next input next)) k x in
      let t = filter_passes (is_relocated (with_next input next)) (range_with_len 0 (length input.items)) k x l in
      elim (cases_eq (source input item) v) [
        | inl at ↦ at
        | inr ne ↦ absurd (differ (source input item) (target (with_next input next) item) t (sym (d.stays item (moves_there (with_next input next) k x l) ne)))
      ]

  two_sided : IsTwoSided (transfer_graph (with_next input next))
  two_sided = (
    λ u. eqb u v,
    All-map (λ t. eqb t.leaves v ≢ eqb t.reaches v) (transfer (with_next input next)) (moves (with_next input next)) (λ k x l same.
        let item = get_or (moves (with_next input next)) k x in
        false≢true (sym (ne_eqb (target (with_next input next) item) v (move_target k x l)) ∙ sym same ∙ eq-eqb (source input item) v (move_source k x l))),
  )

  leaving_none : (u : ℕ) → u ≢ v → side_load Outgoing u (transfers (with_next input next)) ≡ 0
  leaving_none u ne =
      let ms = moves (with_next input next) in
      leaving_counted (with_next input next) u ∙ none_pass (λ item. eqb (source input item) u) ms (λ k x l. ne_eqb (source input (get_or ms k x)) u (λ same. ne (sym same ∙ move_source k x l)))

  -- no more leave a disk, and no more reach it, than the rounds allow
  leaving_few : (u : ℕ) → side_load Outgoing u (transfers (with_next input next)) ≤ r * outgoing_limit input u
  leaving_few u = elim (cases_eq u v) [
    | inl at ↦
        let few = count_by-filter-le (λ item. eqb (source input item) v) (is_relocated (with_next input next)) (range_with_len 0 (length input.items)) in
        let own = (div_ceil_times (present input v) (outgoing_limit input v) (side_positive Outgoing (disk_at input.disks v).limits (limits_at input is v there))).0 in
        let up = mul-le-mul_right (outgoing_limit input v) e.leave in
        let least : side_load Outgoing v (transfers (with_next input next)) ≤ r * outgoing_limit input v = omega (arith, leaving_counted (with_next input next) v, few, present_counted input v is, own, up) in
        subst (λ w. side_load Outgoing w (transfers (with_next input next)) ≤ r * outgoing_limit input w) (sym at) least
    | inr ne ↦ omega (arith, leaving_none u ne)
  ]

  reaching_few : (u : ℕ) → side_load Incoming u (transfers (with_next input next)) ≤ r * incoming_limit input u
  reaching_few u = omega (arith, reaching_counted (with_next input next) u, incoming_few u)

  -- and each disk only gives or only takes
  idle : (u : ℕ) → (side_load Outgoing u (transfers (with_next input next)) ≡ 0) ⊎ (side_load Incoming u (transfers (with_next input next)) ≡ 0)
  idle u = elim (cases_eq u v) [
    | inl at ↦ inr (ap (λ w. side_load Incoming w (transfers (with_next input next))) at ∙ reaching_counted (with_next input next) v ∙ incoming_none)
    | inr ne ↦ inl (leaving_none u ne)
  ]

  -- so the rounds are the quotient, where no fewer are enough, and plans have as many
  pub quotient_is : ((q : ℕ) → AreEnough input v q → r ≤ q) → quotient (transfer_graph (with_next input next)) ≡ r
  quotient_is least =
      let most = quotient_most (transfer_graph (with_next input next)) r (λ u l. rounds_few (disk_at input.disks u).limits u (transfers (with_next input next)) r (limits_at input is u l) (leaving_few u) (reaching_few u) (idle u)) in
      omega (arith, most, least (quotient (transfer_graph (with_next input next))) (enough input is v there next empties))

  pub plans_have : ((q : ℕ) → AreEnough input v q → r ≤ q) → PlansHave (with_next input next) r
  plans_have least plan made = made.tight TwoSides two_sided ∙ quotient_is least

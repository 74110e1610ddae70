-- The moves that leave a disk or reach it, and the quotient.
use Rattle.mig_drain.proofs.Common.{All, All-head, All-map, All-tail, Incoming, InputLists, IsInRange, IsInput, Joint, Limits, List, Needs, Outgoing, Side, Split, Transfers, Transfer, [], arith, count_by}
use Rattle.mig_drain.proofs.Common.{disk_at, disk_value, div_ceil, div_ceil-le, div_ceil_times, eqb, fold, get_or, get_or-range_with_len, incoming, inl, inr, length, length-range_with_len, load}
use Rattle.mig_drain.proofs.Common.{load_in_sides, map, max, moves, mul-le-mul_right, nat_tests, needs_disk, one, passes, quotient, range_with_len, rounds_for, side_in_load, side_limit}
use Rattle.mig_drain.proofs.Common.{side_load, source, sum_by-map, sum_by-same_each, target, transfer_graph, transfer, transfers, value_within_quotient, ℕ, ◌*◌, ◌<◌, ◌∙◌, ◌∷◌, ◌≡◌, ◌≤◌, ◌⊎◌}

-- the rounds that a disk needs are enough for each of its sides
side_within_rounds : (side : Side) (limits : Limits) (v : ℕ) (transfers : List Transfer) → IsInRange limits → side_load side v transfers ≤ rounds_for limits v transfers * side_limit side limits
side_within_rounds side (Joint limit) v transfers range = omega (arith, side_in_load side v transfers, (div_ceil_times (load v transfers) limit range.0).0)
side_within_rounds Outgoing (Split outgoing incoming) v transfers range =
    let least = mul-le-mul_right outgoing (left (div_ceil (side_load Outgoing v transfers) outgoing) (div_ceil (side_load Incoming v transfers) incoming)) in
    omega (arith, (div_ceil_times (side_load Outgoing v transfers) outgoing range.0.0).0, least)
  where
    left : (a b : ℕ) → a ≤ max a b
    left a b = omega arith
side_within_rounds Incoming (Split outgoing incoming) v transfers range =
    let least = mul-le-mul_right incoming (right (div_ceil (side_load Outgoing v transfers) outgoing) (div_ceil (side_load Incoming v transfers) incoming)) in
    omega (arith, (div_ceil_times (side_load Incoming v transfers) incoming range.1.0).0, least)
  where
    right : (a b : ℕ) → b ≤ max a b
    right a b = omega arith

-- and so is the quotient
pub side_within_quotient : (graph : Transfers) (side : Side) (v : ℕ) → v < length graph.disks → IsInRange (disk_at graph.disks v).limits → side_load side v graph.transfers ≤ quotient graph * side_limit side (disk_at graph.disks v).limits
side_within_quotient graph side v there range =
    let limits = (disk_at graph.disks v).limits in
    omega (arith, side_within_rounds side limits v graph.transfers range, mul-le-mul_right (side_limit side limits) (value_within_quotient graph v there))

-- where a disk only gives or only takes, rounds that are enough for each side are enough for the disk
pub rounds_few : (limits : Limits) (v : ℕ) (transfers : List Transfer) (n : ℕ) → IsInRange limits → side_load Outgoing v transfers ≤ n * side_limit Outgoing limits → side_load Incoming v transfers ≤ n * side_limit Incoming limits
    → (side_load Outgoing v transfers ≡ 0) ⊎ (side_load Incoming v transfers ≡ 0) → rounds_for limits v transfers ≤ n
rounds_few (Joint limit) v transfers n range leave reach (inl none) = div_ceil-le (load v transfers) limit n range.0 (omega (arith, load_in_sides v transfers, none, reach))
rounds_few (Joint limit) v transfers n range leave reach (inr none) = div_ceil-le (load v transfers) limit n range.0 (omega (arith, load_in_sides v transfers, none, leave))
rounds_few (Split outgoing incoming) v transfers n range leave reach idle = greater
    (div_ceil-le (side_load Outgoing v transfers) outgoing n range.0.0 leave)
    (div_ceil-le (side_load Incoming v transfers) incoming n range.1.0 reach)
  where
    greater : {a b n : ℕ} → a ≤ n → b ≤ n → max a b ≤ n
    greater h k = omega (arith, h, k)

greatest_most : (a n : ℕ) (xs : List ℕ) → a ≤ n → All (λ x. x ≤ n) xs → fold max a xs ≤ n
greatest_most a n [] h all = h
greatest_most a n (x ∷ xs) h all = greatest_most (max a x) n xs (omega (arith, h, All-head (λ y. y ≤ n) x xs all)) (All-tail (λ y. y ≤ n) x xs all)

-- the quotient is the least number that is enough for each disk
pub quotient_most : (graph : Transfers) (n : ℕ) → ((v : ℕ) → v < length graph.disks → disk_value graph v ≤ n) → quotient graph ≤ n
quotient_most graph n each =
    let disks = length graph.disks in
    greatest_most 0 n (map (disk_value graph) (range_with_len 0 disks)) (omega arith)
    (All-map (λ x. x ≤ n) (disk_value graph) (range_with_len 0 disks) (λ k d h.
    let there : k < disks = omega (arith, h, length-range_with_len 0 disks) in
    each (get_or (range_with_len 0 disks) k d) (omega (arith, there, get_or-range_with_len 0 disks k d there))))

-- every schedule has at least as many rounds as the quotient
pub needs_quotient : (input : InputLists) → IsInput input → Needs input (quotient (transfer_graph input))
needs_quotient input is rounds round_of scheduled obeys = quotient_most (transfer_graph input) rounds (λ v there. needs_disk input v is there rounds round_of scheduled obeys)

-- The sides of a disk, counted over the moves

turned : (a b : ℕ) → one (eqb a b) ≡ one (eqb b a)
turned a b = grind (arith, nat_tests)

pub leaving_counted : (input : InputLists) (v : ℕ) → side_load Outgoing v (transfers input) ≡ count_by (λ item. eqb (source input item) v) (moves input)
leaving_counted input v =
    sum_by-map (λ t. one (passes Outgoing v t)) (transfer input) (moves input)
    ∙ sum_by-same_each (λ item. one (eqb v (source input item))) (λ item. one (eqb (source input item) v)) (moves input) (λ k d _. turned v (source input (get_or (moves input) k d)))

pub reaching_counted : (input : InputLists) (v : ℕ) → side_load Incoming v (transfers input) ≡ incoming input v
reaching_counted input v =
    sum_by-map (λ t. one (passes Incoming v t)) (transfer input) (moves input)
    ∙ sum_by-same_each (λ item. one (eqb v (target input item))) (λ item. one (eqb (target input item) v)) (moves input) (λ k d _. turned v (target input (get_or (moves input) k d)))

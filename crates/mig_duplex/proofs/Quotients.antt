-- The quotient: at least 1 where there are edges, and at most as many as they are.
use Rattle.mig_duplex.proofs.Common.{All, All-head, All-map, All-tail, Incoming, IsGraph, IsInRange, Joint, Limits, List, Outgoing, Split, Transfers, Transfer, [], ap, arith, ceil_within}
use Rattle.mig_duplex.proofs.Common.{count_by-le-length, disk_value, eqb, fold, get_or, get_or-range_with_len, length, length-range_with_len, limit, load, load_within_rounds, map, max}
use Rattle.mig_duplex.proofs.Common.{most_ends, nat_tests, no_disk, one, passes, quotient, range_with_len, refl, rounds_for, side_load, suc, sum_by-cons, touches, transfer_at, transfers}
use Rattle.mig_duplex.proofs.Common.{value_within_quotient, zero, ℕ, ◌*◌, ◌<◌, ◌||◌, ◌∷◌, ◌≡◌, ◌≤◌}

-- the limits of a disk
abbrev pub limits_of : Transfers → ℕ → Limits
limits_of graph v = (Rattle.mig_base.specs.InputLists.disk_at graph.disks v).limits

-- each disk has limits in range
abbrev pub HasRanges : Transfers → Type 0
HasRanges graph = (v : ℕ) → v < length graph.disks → IsInRange (limits_of graph v)

pub has_ranges : (graph : Transfers) → IsGraph graph → HasRanges graph
has_ranges graph valid v h = (valid.disks_valid v no_disk h).0

pub greatest_most : (a m : ℕ) (xs : List ℕ) → a ≤ m → All (λ x. x ≤ m) xs → fold max a xs ≤ m
greatest_most a m [] h all = h
greatest_most a m (x ∷ xs) h all = greatest_most (max a x) m xs (omega (arith, h, All-head (λ y. y ≤ m) x xs all)) (All-tail (λ y. y ≤ m) x xs all)

-- a disk needs no more rounds than there are transfers
rounds_within : (limits : Limits) (v : ℕ) (transfers : List Transfer) → IsInRange limits → rounds_for limits v transfers ≤ length transfers
rounds_within (Joint limit) v transfers range = omega (arith, ceil_within (load v transfers) limit range.0, count_by-le-length (touches v) transfers)
rounds_within (Split outgoing incoming) v transfers range = both
    (omega (arith, ceil_within (side_load Outgoing v transfers) outgoing range.0.0, count_by-le-length (passes Outgoing v) transfers))
    (omega (arith, ceil_within (side_load Incoming v transfers) incoming range.1.0, count_by-le-length (passes Incoming v) transfers))
  where
    both : {a b n : ℕ} → a ≤ n → b ≤ n → max a b ≤ n
    both h k = omega (arith, h, k)

pub quotient_most : (graph : Transfers) → HasRanges graph → quotient graph ≤ length graph.transfers
quotient_most graph ranges =
    let n = length graph.disks in
    greatest_most 0 (length graph.transfers) (map (disk_value graph) (range_with_len 0 n)) (omega arith)
    (All-map (λ x. x ≤ length graph.transfers) (disk_value graph) (range_with_len 0 n) (λ k d h.
    let v = get_or (range_with_len 0 n) k d in
    let there : v < n = omega (arith, get_or-range_with_len 0 n k d (omega (arith, h, length-range_with_len 0 n)), h, length-range_with_len 0 n) in
    rounds_within (limits_of graph v) v graph.transfers (ranges v there)))

-- a disk with a load needs a round
rounds_some : (limits : Limits) (v : ℕ) (transfers : List Transfer) → IsInRange limits → 1 ≤ load v transfers → 1 ≤ rounds_for limits v transfers
rounds_some limits v transfers range some = not_none (rounds_for limits v transfers) refl
  where
    not_none : (n : ℕ) → rounds_for limits v transfers ≡ n → 1 ≤ rounds_for limits v transfers
    not_none zero e = absurd (omega (arith, load_within_rounds limits v transfers range, some, ap (λ m. m * most_ends limits) e))
    not_none (suc n) e = omega (arith, e)

some_load : (t : Transfer) (ts : List Transfer) → 1 ≤ load t.leaves (t ∷ ts)
some_load t ts = omega (arith, sum_by-cons (λ (x : Transfer). one (touches t.leaves x)) t ts, itself t.leaves t.reaches)
  where
    itself : (a b : ℕ) → one (eqb a a || eqb a b) ≡ 1
    itself a b = grind (arith, nat_tests)

pub some_load_at : (ts : List Transfer) → 0 < length ts → 1 ≤ load (transfer_at ts 0).leaves ts
some_load_at [] h = absurd (omega (arith, h))
some_load_at (t ∷ ts) h = some_load t ts

pub quotient_some : (graph : Transfers) → HasRanges graph → All (λ t. t.leaves < length graph.disks) graph.transfers → 0 < length graph.transfers → 1 ≤ quotient graph
quotient_some graph ranges there some =
    let v = (transfer_at graph.transfers 0).leaves in
    let within : v < length graph.disks = there 0 (record { leaves = 0; reaches = 0 }) some in
    omega (arith, rounds_some (limits_of graph v) v graph.transfers (ranges v within) (some_load_at graph.transfers some), value_within_quotient graph v within)

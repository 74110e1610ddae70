-- The items that are still to be counted at their disks.
use Rattle.mig_csv.proofs.Common.{InputLists, List, Spot, ap, arith, count_by, count_by-filter, count_by-le-length, drop, drop_of_length-le, incoming}
use Rattle.mig_csv.proofs.Common.{length, length-range_with_len, no_spot, present, slots_for, source, sum_by-drop_more, target, ℕ, ◌+◌, ◌<◌, ◌==◌}
use Rattle.mig_csv.proofs.Common.{◌≡◌, ◌≤◌}
use Rattle.mig_csv.proofs.Coming.{left_from, left_from-end, left_from-next, left_from-start}

-- of the items from this number on, those that are on the disk, and those that are relocated and come to it
abbrev pub left_over : InputLists → ℕ → ℕ → ℕ
left_over i v item = count_by (λ (s : Spot). s.disk.0 == v) (drop item i.spots) + left_from i v item

pub left_over-start : (i : InputLists) (v : ℕ) → left_over i v 0 ≡ present i v + incoming i v
left_over-start i v = ap (λ (n : ℕ). present i v + n) (left_from-start i v)

pub left_over-next : (i : InputLists) (v item : ℕ) → item < length i.items → length i.spots ≡ length i.items
    → left_over i v item ≡ slots_for (record { 0 = source i item }) (record { 0 = target i item }) v + left_over i v (item + 1)
left_over-next i v item lt len = grind (arith, sum_by-drop_more, no_spot, left_from-next)

pub left_over-end : (i : InputLists) (v item : ℕ) → length i.items ≤ item → length i.spots ≡ length i.items → left_over i v item ≡ 0
left_over-end i v item past len =
    let on : count_by (λ (s : Spot). s.disk.0 == v) (drop item i.spots) ≡ 0 = ap (λ (ss : List Spot). count_by (λ (s : Spot). s.disk.0 == v) ss) (drop_of_length-le i.spots (omega arith)) in
    let comes = left_from-end i v item past in
    omega (arith, on, comes)

-- a disk needs no more than one slot for each item that is on it and one for each that comes to it
pub present-le : (i : InputLists) (v : ℕ) → present i v ≤ length i.spots
present-le i v = count_by-le-length (λ (s : Spot). s.disk.0 == v) i.spots

pub incoming-le : (i : InputLists) (v : ℕ) → incoming i v ≤ length i.items
incoming-le i v = grind (arith, count_by-le-length, count_by-filter, length-range_with_len)

-- Counts over the moves of an input, item by item and disk by disk.
use Rattle.mig_check.proofs.Common.{All, AreLoadsOf, Bool, Both, Class, Disk, DiskId, Duplex, Even, General, InputLists, IsDiskSet, IsEven, IsInput, List, Part, Spot, Transfers, Transfer, [], ap, arith}
use Rattle.mig_check.proofs.Common.{cases_lt, class_is_duplex, class_is_even, class_of, cond, count_by, count_by-filter, count_by-le-length, disk_at, ends_small, eqb, false, false≢true}
use Rattle.mig_check.proofs.Common.{fold-append, get_or, get_or_default, greatest, has, inl, inr, is_duplex, is_inside, is_relocated, length, length-range_with_len, limit, limit_sum, limits_at}
use Rattle.mig_check.proofs.Common.{load, map, map-id, map-range_with_len_more, map_more, max, most_ends, moves, nat_cmp, nat_tests, ne_eqb, no_disk, no_spot, not, numbers, one, ord_max}
use Rattle.mig_check.proofs.Common.{part_limit, part_load, part_value, passing, range_with_len, refl, spot_disk, suc, sum_by-append, sum_by-cons, sum_by-map, sum_by-map-range_with_len_more, sym}
use Rattle.mig_check.proofs.Common.{take, transfer_graph, transfer, transfers, true, zero, ℕ, ◌%◌, ◌&&◌, ◌*◌, ◌+◌, ◌<◌, ◌^◌, ◌∙◌, ◌∷◌, ◌≡◌, ◌≢◌, ◌≤◌}
use Rattle.std.specs.Int as Int

-- one item more
pub passing_more : (input : InputLists) (p : Transfer → Bool) (n : ℕ) → passing input p (n + 1) ≡ passing input p n + cond (is_relocated input n && p (transfer input n)) 1 0
passing_more input p n =
    let test : ℕ → ℕ = λ item. one (is_relocated input item && p (transfer input item)) in
    simp map-id at (sum_by-map-range_with_len_more test (λ m. m) 0 n n (omega arith))

pub passing_most : (input : InputLists) (p : Transfer → Bool) (n : ℕ) → passing input p n ≤ n
passing_most input p n = omega (arith, count_by-le-length (λ item. is_relocated input item && p (transfer input item)) (range_with_len 0 n), length-range_with_len 0 n)

-- over all items it is the count over the moves
pub passing_all : (input : InputLists) (p : Transfer → Bool) → passing input p (length input.items) ≡ count_by p (transfers input)
passing_all input p = sym (sum_by-map (λ t. one (p t)) (transfer input) (moves input) ∙ count_by-filter (λ item. p (transfer input item)) (is_relocated input) (range_with_len 0 (length input.items)))

-- what the code reads of an item
abbrev pub passes_at : (Transfer → Bool) → List Spot → List DiskId → ℕ → Bool
passes_at p spots next i = not (eqb (get_or spots i no_spot).disk.0 (get_or next i (record { 0 = 0 })).0) && p (record { leaves = (get_or spots i no_spot).disk.0; reaches = (get_or next i (record { 0 = 0 })).0 })

pub counted_more : (input : InputLists) (p : Transfer → Bool) (spots : List Spot) (next : List DiskId) (i old new : ℕ) → spots ≡ input.spots → next ≡ input.next → new ≡ old + one (passes_at p spots next i) → old ≡ passing input p i → new ≡ passing input p (i + 1)
counted_more input p spots next i old new is_spots is_next step was =
    let e : one (passes_at p spots next i) ≡ one (passes_at p input.spots input.next i) = ap (λ (s : List Spot). one (passes_at p s next i)) is_spots ∙ ap (λ (n : List DiskId). one (passes_at p input.spots n i)) is_next in
    omega (arith, step, was, e, passing_more input p i)

-- the greatest of one number more
pub greatest_more : (f : ℕ → ℕ) (n : ℕ) → greatest (map f (range_with_len 0 (n + 1))) ≡ max (greatest (map f (range_with_len 0 n))) (f n)
greatest_more f n = ap greatest (map-range_with_len_more f 0 n n (omega arith)) ∙ fold-append max 0 (map f (range_with_len 0 n)) (f n ∷ [])

-- what the code reads of a set
pub inside_by_marks : (members : List Bool) (set : List ℕ) (a b : ℕ) (r : Bool) → get_or members a false ≡ has set a → get_or members b false ≡ has set b → r ≡ (not (eqb a b) && (get_or members a false && get_or members b false)) → r ≡ (not (eqb a b) && is_inside set (record { leaves = a; reaches = b }))
inside_by_marks members set a b r at_a at_b h = h ∙ rw (at_a, at_b) refl

pub one_more : (r p : Bool) (new old : ℕ) → r ≡ p → r ≡ true → new ≡ old + 1 → new ≡ old + one p
one_more r p new old same yes' step = step ∙ ap (λ (b : Bool). old + one b) (sym yes' ∙ same)

pub no_more : (r p : Bool) (new old : ℕ) → r ≡ p → r ≡ false → new ≡ old → new ≡ old + one p
no_more r p new old same not' step = let e : one p ≡ 0 = ap one (sym same ∙ not') in omega (arith, step, e)

-- the rounds that a disk needs, as the code counts them
pub need_is : (part : Part) (input : InputLists) (loads : List ℕ) (disks : List Disk) (v limit need : ℕ) (disk : Disk) → AreLoadsOf part input loads → disks ≡ input.disks → v < length disks → disk ≡ get_or disks v disk → limit ≡ part_limit part disk.limits → need ≡ Int.div_ceil (get_or loads v 0) limit → need ≡ part_value part (transfer_graph input) v
need_is part input loads disks v limit need disk are same there is is_limit h =
    let within : v < length input.disks = omega (arith, there, ap (λ (d : List Disk). length d) same) in
    let e : limit ≡ part_limit part (disk_at input.disks v).limits = is_limit ∙ ap (λ (d : Disk). part_limit part d.limits) (is ∙ get_or_default disks v disk no_disk there ∙ ap (λ (d : List Disk). get_or d v no_disk) same) in
    h ∙ ap (λ (n : ℕ). Int.div_ceil n limit) (are.each v (omega (arith, within, are.len))) ∙ ap (λ (n : ℕ). Int.div_ceil (part_load part v (transfers input)) n) e

max_is : (a b : ℕ) → ord_max nat_cmp a b ≡ max a b
max_is a b = grind (arith, nat_tests)

pub quotient_more : (value : ℕ → ℕ) (v old need new : ℕ) → old ≡ greatest (map value (range_with_len 0 v)) → need ≡ value v → new ≡ ord_max nat_cmp old need → new ≡ greatest (map value (range_with_len 0 (v + 1)))
quotient_more value v old need new was is h = h ∙ max_is old need ∙ ap (λ (n : ℕ). max n need) was ∙ ap (λ (n : ℕ). max (greatest (map value (range_with_len 0 v))) n) is ∙ sym (greatest_more value v)

-- a disk with a load and an odd limit
pub odd_breaks : (input : InputLists) (loads : List ℕ) (disks : List Disk) (v limit : ℕ) (disk : Disk) → AreLoadsOf Both input loads → disks ≡ input.disks → v < length disks → disk ≡ get_or disks v disk → limit ≡ most_ends disk.limits
    → 0 < get_or loads v 0 → limit % 2 ≢ 0 → IsEven (transfer_graph input) → ⊥
odd_breaks input loads disks v limit disk are same there is is_limit some odd even =
    let within : v < length input.disks = omega (arith, there, ap (λ (d : List Disk). length d) same) in
    let e : limit ≡ most_ends (disk_at input.disks v).limits = is_limit ∙ ap (λ (d : Disk). most_ends d.limits) (is ∙ get_or_default disks v disk no_disk there ∙ ap (λ (d : List Disk). get_or d v no_disk) same) in
    let loaded : load v (transfers input) ≢ 0 = λ none. omega (arith, none, some, are.each v (omega (arith, within, are.len))) in
    odd (ap (λ n. n % 2) e ∙ even.1 v within (ap not (ne_eqb (load v (transfers input)) 0 loaded)))

-- the class, by whether limits are even
pub even_class : (graph : Transfers) → IsEven graph → ◌≡◌ {A = Class} Even (class_of graph)
even_class graph even = sym ((class_is_even graph).1 even)

pub general_class : (graph : Transfers) → is_duplex graph.disks ≡ false → (IsEven graph → ⊥) → ◌≡◌ {A = Class} General (class_of graph)
general_class graph joint odd = by_class (class_of graph) refl
  where
    by_class : (c : Class) → class_of graph ≡ c → ◌≡◌ {A = Class} General (class_of graph)
    by_class Even e = absurd (odd ((class_is_even graph).0 e))
    by_class General e = sym e
    by_class Duplex e = absurd (false≢true (sym joint ∙ (class_is_duplex graph).0 e))

-- Sets of disks

at_least : (set : List DiskId) → IsDiskSet set → (k : ℕ) (d : DiskId) → k < length set → k ≤ (get_or set k d).0
at_least set apart zero d there = omega arith
at_least set apart (suc k) d there = omega (arith, at_least set apart k d (omega (arith, there)), apart k (suc k) d (omega arith) there)

-- a set has no more disks than there are
pub short_set : (set : List DiskId) (n : ℕ) → IsDiskSet set → All (λ disk. disk.0 < n) set → length set ≤ n
short_set set n apart there = elim (cases_lt n (length set)) [
  | inl long ↦ (let d : DiskId = record { 0 = 0 } in absurd (omega (arith, at_least set apart n d long, there n d long)))
  | inr short ↦ short
]

pub limit_sum_more : (graph : Transfers) (set : List DiskId) (i : ℕ) (d : DiskId) → i < length set → limit_sum graph (numbers (take (i + 1) set)) ≡ limit_sum graph (numbers (take i set)) + limit graph (get_or set i d).0
limit_sum_more graph set i d there =
    let n = (get_or set i d).0 in
    ap (limit_sum graph) (map_more (λ (disk : DiskId). disk.0) set i d there) ∙ omega (arith, sum_by-append (limit graph) (numbers (take i set)) (n ∷ []), sum_by-cons (limit graph) n [])

-- the sum of limits goes on by one disk, and stays in range
pub record SumStep (input : InputLists) (items : List DiskId) (i sum : ℕ) : Type 0 where
  pub fits : sum < 2 ^ 32
  pub is : sum ≡ limit_sum (transfer_graph input) (numbers (take (i + 1) items))
  pub most : sum ≤ (i + 1) * 2048

pub sum_step : (input : InputLists) (set items : List DiskId) (disks : List Disk) (i old : ℕ) (d : DiskId) (e : Disk) → IsInput input → disks ≡ input.disks → items ≡ set → All (λ disk. disk.0 < length input.disks) set → IsDiskSet set → i < length items → old ≡ limit_sum (transfer_graph input) (numbers (take i items)) → old ≤ i * 2048
    → SumStep input items i (old + most_ends (get_or disks (get_or items i d).0 e).limits)
sum_step input set items disks i old d e valid same_disks same_items there increasing within is most =
    let n = (get_or items i d).0 in
    let lens : length items ≡ length set = ap (λ (x : List DiskId). length x) same_items in
    let inside : n < length input.disks = omega (arith, there i d (omega (arith, within, lens)), ap (λ (x : List DiskId). (get_or x i d).0) same_items) in
    let at : most_ends (get_or disks n e).limits ≡ limit (transfer_graph input) n = ap (λ (x : Disk). most_ends x.limits) (ap (λ (x : List Disk). get_or x n e) same_disks ∙ get_or_default input.disks n e no_disk inside) in
    let small = ends_small (disk_at input.disks n).limits (limits_at input valid n inside) in
    let few = short_set set (length input.disks) increasing there in
    record {
      fits = omega (arith, most, at, small, few, valid.few_disks, within, lens);
      is = omega (arith, is, at, limit_sum_more (transfer_graph input) items i d within);
      most = omega (arith, most, at, small);
    }

-- the disks that the code reads of an item are there
pub ends_there : (input : InputLists) (spots : List Spot) (next : List DiskId) (i : ℕ) → IsInput input → spots ≡ input.spots → next ≡ input.next → i < length spots → ((get_or spots i no_spot).disk.0 < length input.disks) × ((get_or next i (record { 0 = 0 })).0 < length input.disks)
ends_there input spots next i valid is_spots is_next within =
    let d : DiskId = record { 0 = 0 } in
    let lens : length spots ≡ length input.spots = ap (λ (s : List Spot). length s) is_spots in
    let from = spot_disk input.disks (get_or input.spots i no_spot) (valid.on_disks i no_spot (omega (arith, within, lens))) in
    let to = valid.next_disks i d (omega (arith, within, lens, valid.spots_len, valid.next_len)) in (
      omega (arith, from, ap (λ (s : List Spot). (get_or s i no_spot).disk.0) is_spots),
      omega (arith, to, ap (λ (n : List DiskId). (get_or n i d).0) is_next),
    )

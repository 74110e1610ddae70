-- From a complete proper colouring of copies to a limited colouring of the transfer graph.
use Rattle.mig_plan.proofs.Common.{All, AreColours, AreShares, Balances, Bool, Colour, Colouring, Copied, CopyId, DiskId, IsDealtBoard, IsEven, IsGraph, IsLimited, IsProper, IsSpread, List}
use Rattle.mig_plan.proofs.Common.{MAX_DISKS, MAX_ITEMS, SameGraph, SidesFit, StandsForEnds, Transfers, Transfer}
use Rattle.mig_plan.proofs.Common.{ap, arith, cases_eq, ceil_of_none, colour_at, colour_at_disk, nat_tests}
use Rattle.mig_plan.proofs.Common.{copies_of_sides, count_by-filter, div_ceil, div_ceil_times, edges_of, entering_in, eqb, false, first_copy, get_or, get_or_default, head_of, listed_disk, occurrences}
use Rattle.mig_plan.proofs.Common.{in_of, inl, inr, is_duplex, is_forward, keeps_joint, leaving_in, length, length-map, limit, load, load_within_quotient, map, min, mul-le-mul_left}
use Rattle.mig_plan.proofs.Common.{mul-le-mul_right, ne_eqb, no_disk, not, one, out_in, out_of, quotient, range_with_len, second_of, subst, sum_by-add, sum_by-le_each, sum_by-map, sym, tail_of}
use Rattle.mig_plan.proofs.Common.{touches, transfer_at, true, ℕ, ◌&&◌, ◌*◌, ◌+◌, ◌<◌, ◌||◌, ◌∙◌, ◌≡◌, ◌≢◌, ◌≤◌, ◌⊎◌}
use Rattle.mig_duplex.proofs.Quotients.{HasRanges, limits_of}
use Rattle.mig_duplex.proofs.Spread.{apart_at, home_is}
use Rattle.mig_base.proofs.Copies.{IsProper as IsProperCopies}

-- edges between copies whose homes are their disks
abbrev copied_of : Transfers → List (CopyId × CopyId) → List DiskId → List Colour → Copied
copied_of graph ends homes colours = record { edges = length graph.transfers; homes = map (λ (d : DiskId). d.0) homes; first = first_copy ends; second = second_of ends; transfer = transfer_at graph.transfers; colour = colour_at colours }

-- edges that are proper at the nodes are proper at the copies that these are
proper_copies : (g : Colouring) (graph : Transfers) (homes : List DiskId) (colours : List Colour) → IsProper g → AreColours g colours → length g.ends ≡ length graph.transfers → IsProperCopies (copied_of graph g.ends homes colours)
proper_copies g graph homes colours proper a len d e k lt h same m n = apart_at g colours d e k proper a lt (omega (arith, h, len)) same m n

limited_by_copies : (g : Colouring) (graph : Transfers) (homes : List DiskId) (colours : List Colour) → IsGraph graph → is_duplex graph.disks ≡ false → IsProper g → AreColours g colours → length g.ends ≡ length graph.transfers
    → ((e : ℕ) → e < length graph.transfers → StandsForEnds (copied_of graph g.ends homes colours) e) → ((v : ℕ) → v < length graph.disks → occurrences v homes ≤ limit graph v) → IsLimited graph g.colours colours
limited_by_copies g graph homes colours valid joint proper a len stands most =
    let x = copied_of graph g.ends homes colours in
    let m = length graph.transfers in
    record {
      one_each = a.one_each ∙ len;
      below = λ e d h. subst (λ (k : Colour). k.0 < g.colours) (get_or_default colours e (record { 0 = 0 }) d h) (proper.colours_in_range (record { 0 = e }) (record { 0 = colour_at colours e }) (a.has e (omega (arith, h, a.one_each))));
      within = λ c v h.
          (let law = colour_at_disk x c v stands (proper_copies g graph homes colours proper a len) in
          let homes_are = sum_by-map (λ n. one (eqb n v)) (λ (d : DiskId). d.0) homes in
          let counted = sum_by-map (λ (t : Transfer). one (touches v t)) (transfer_at graph.transfers) (edges_of colours c m) in
          let filtered = count_by-filter (λ e. touches v (transfer_at graph.transfers e)) (λ e. eqb (colour_at colours e) c) (range_with_len 0 m) in
          keeps_joint (limits_of graph v) v (map (transfer_at graph.transfers) (edges_of colours c m)) (valid.one_kind v no_disk h ∙ joint) (omega (arith, law, homes_are, counted, filtered, most v h)));
    }

-- ---- copies of disks

-- the ends of a transfer by its direction are its ends
leaves_by : (t : Transfer) (b : Bool) (x y : ℕ) → x ≡ tail_of t b → y ≡ head_of t b → (x ≡ t.leaves) ⊎ (y ≡ t.leaves)
leaves_by t true x y e f = inl e
leaves_by t false x y e f = inr f

reaches_by : (t : Transfer) (b : Bool) (x y : ℕ) → x ≡ tail_of t b → y ≡ head_of t b → (x ≡ t.reaches) ⊎ (y ≡ t.reaches)
reaches_by t true x y e f = inr f
reaches_by t false x y e f = inl e

stands_shares : (graph : Transfers) (ds : List Bool) (share : ℕ) (ends : List (CopyId × CopyId)) (homes : List DiskId) (colours : List Colour) → AreShares graph ds share ends homes → (e : ℕ) → e < length graph.transfers → StandsForEnds (copied_of graph ends homes colours) e
stands_shares graph ds share ends homes colours a e h =
    let l : e < length ends = omega (arith, h, a.one_each) in
    let t = transfer_at graph.transfers e in
    let x = home_is homes (first_copy ends e) ∙ a.first e l in
    let y = home_is homes (second_of ends e) ∙ a.second e l in
    record {
      first_there = omega (arith, (a.there e l).0, length-map homes (λ (d : DiskId). d.0));
      second_there = omega (arith, (a.there e l).1, length-map homes (λ (d : DiskId). d.0));
      leaves = leaves_by t (is_forward ds e) (get_or (map (λ (d : DiskId). d.0) homes) (first_copy ends e) 0) (get_or (map (λ (d : DiskId). d.0) homes) (second_of ends e) 0) x y;
      reaches = reaches_by t (is_forward ds e) (get_or (map (λ (d : DiskId). d.0) homes) (first_copy ends e) 0) (get_or (map (λ (d : DiskId). d.0) homes) (second_of ends e) 0) x y;
    }

min_left : (a b n : ℕ) → n ≡ min a b → n ≤ a
min_left a b n h = omega (arith, h)

-- a colouring of a dealt board on which each edge has a colour
pub dealt_limited : (graph : Transfers) (n : ℕ) (old new : Colouring) (colours : List Colour) → IsGraph graph → is_duplex graph.disks ≡ false → IsDealtBoard graph n old → SameGraph old new → IsProper new → AreColours new colours → IsLimited graph n colours
dealt_limited graph n old new colours valid joint b same proper c =
    let ends : new.ends ≡ old.ends = ap (λ (g : Colouring). g.ends) same in
    let count : new.colours ≡ n = ap (λ (g : Colouring). g.colours) same ∙ ap (λ (g : Colouring). g.colours) b.made in
    let copies : AreShares graph b.directions b.share new.ends b.homes = subst (λ (x : List (CopyId × CopyId)). AreShares graph b.directions b.share x b.homes) (sym ends) b.copies in
    subst (λ k. IsLimited graph k colours) count
    (limited_by_copies new graph b.homes colours valid joint proper c copies.one_each (stands_shares graph b.directions b.share new.ends b.homes colours copies)
    (λ v h. min_left (limit graph v) (div_ceil (load v graph.transfers) b.share) (occurrences v b.homes) (copies.number v h)))

-- ends that are in range and differ
pub shares_in_range : (graph : Transfers) (ds : List Bool) (share : ℕ) (ends : List (CopyId × CopyId)) (homes : List DiskId) (n : ℕ) → n ≡ length homes → AreShares graph ds share ends homes → All (λ p. (p.0.0 < n) × (p.1.0 < n)) ends
shares_in_range graph ds share ends homes n is_n a k d h = subst (λ (p : CopyId × CopyId). (p.0.0 < n) × (p.1.0 < n)) (get_or_default ends k (record { 0 = 0 }, record { 0 = 0 }) d h) (omega (arith, (a.there k h).0, is_n), omega (arith, (a.there k h).1, is_n))

ends_differ : (t : Transfer) (b : Bool) (x y : ℕ) → t.leaves ≢ t.reaches → x ≡ tail_of t b → y ≡ head_of t b → x ≢ y
ends_differ t true x y ne e f h = ne (sym e ∙ h ∙ f)
ends_differ t false x y ne e f h = ne (sym f ∙ sym h ∙ e)

pub shares_differ : (graph : Transfers) (ds : List Bool) (share : ℕ) (ends : List (CopyId × CopyId)) (homes : List DiskId) → All (λ t. t.leaves ≢ t.reaches) graph.transfers → AreShares graph ds share ends homes → All (λ p. p.0 ≢ p.1) ends
shares_differ graph ds share ends homes apart a k d h = subst (λ (p : CopyId × CopyId). p.0 ≢ p.1) (get_or_default ends k (record { 0 = 0 }, record { 0 = 0 }) d h)
    (λ e. ends_differ (transfer_at graph.transfers k) (is_forward ds k) (listed_disk homes (first_copy ends k)) (listed_disk homes (second_of ends k)) (apart k (record { leaves = 0; reaches = 0 }) (omega (arith, h, a.one_each))) (a.first k h) (a.second k h) (ap (λ (c : CopyId). listed_disk homes c.0) e))

-- a share is a sixteenth of the quotient, rounded up
pub share_some : (q : ℕ) → 1 ≤ q → 1 ≤ div_ceil q 16
share_some q h = omega (arith, h, (div_ceil_times q 16 (omega arith)).0)

-- the board's size
pub few_general : (nodes q s c m d : ℕ) → 2 * c ≤ 3 * q → s ≡ div_ceil q 16 → nodes * s ≤ 2 * m + d * s → m ≤ MAX_ITEMS → d ≤ MAX_DISKS → q ≤ MAX_ITEMS → nodes * c ≤ 268435456
few_general nodes q s c m d hc is_s room hm hd hq =
    let t = div_ceil_times q 16 (omega arith) in
    let up : q ≤ 16 * s = omega (arith, t.0, is_s) in
    let down : 16 * s ≤ q + 16 = omega (arith, t.1, is_s) in
    let a = mul-le-mul_left nodes hc in
    let b = mul-le-mul_left nodes up in
    let e = mul-le-mul_right s hd in
    omega (arith, a, b, e, room, hm, hq, down)

-- ---- copies on two sides

most_of_load : (graph : Transfers) (v o i l q : ℕ) → o + i ≡ load v graph.transfers → o ≤ i + 1 → i ≤ o + 1 → load v graph.transfers ≤ q * limit graph v → 1 ≤ q → IsEven graph → v < length graph.disks → div_ceil o q + div_ceil i q ≤ limit graph v
most_of_load graph v o i l q total om im within pos even h = elim (cases_eq (load v graph.transfers) 0) [
  | inl e ↦ omega (arith, ap (λ n. div_ceil n q) (zero_left o i (total ∙ e)), ap (λ n. div_ceil n q) (zero_right o i (total ∙ e)), ceil_of_none q pos)
  | inr ne ↦ copies_of_sides o i (limit graph v) q pos (omega (arith, total, within)) (even.1 v h (takes graph v ne)) om im
]
  where
    zero_left : (o i : ℕ) → o + i ≡ 0 → o ≡ 0
    zero_left o i e = omega arith

    zero_right : (o i : ℕ) → o + i ≡ 0 → i ≡ 0
    zero_right o i e = omega arith

    takes : (graph : Transfers) (v : ℕ) → load v graph.transfers ≢ 0 → not (eqb (load v graph.transfers) 0) ≡ true
    takes graph v ne = ap not (ne_eqb (load v graph.transfers) 0 ne)

-- where limits are even, by directions that balance
pub even_fits : (graph : Transfers) (ds : List Bool) → 1 ≤ quotient graph → HasRanges graph → IsEven graph → length ds ≡ length graph.transfers → All (λ t. t.leaves ≢ t.reaches) graph.transfers → Balances graph.transfers ds → SidesFit graph (quotient graph) ds
even_fits graph ds pos limits even len apart b v h =
    most_of_load graph v (out_of graph.transfers ds v) (in_of graph.transfers ds v) 0 (quotient graph) (out_in graph.transfers ds v len apart) (b.out_most v) (b.in_most v) (load_within_quotient graph v h (limits v h)) pos even h

-- edges that are spread keep joint limits that cover both sides
pub spread_joint : (graph : Transfers) (q : ℕ) (ds : List Bool) (colours : List Colour) → IsGraph graph → is_duplex graph.disks ≡ false → SidesFit graph q ds → IsSpread graph q ds colours → IsLimited graph q colours
spread_joint graph q ds colours valid joint fit s = record {
  one_each = s.one_each;
  below = s.below;
  within = λ c v h. keeps_joint (limits_of graph v) v (map (transfer_at graph.transfers) (edges_of colours c m)) (valid.one_kind v no_disk h ∙ joint) (omega (arith, both_sides c v, s.leaving c v h, s.entering c v h, fit v h));
}
  where
    m : ℕ
    m = length graph.transfers

    at_ends : (q : Bool) (t : Transfer) (b : Bool) (v : ℕ) → one (q && touches v t) ≤ one (q && eqb v (tail_of t b)) + one (q && eqb v (head_of t b))
    at_ends q t true v = either q (eqb v t.leaves) (eqb v t.reaches)
      where
        either : (q a b : Bool) → one (q && (a || b)) ≤ one (q && a) + one (q && b)
        either q a b = grind (arith, nat_tests)
    at_ends q t false v = other q (eqb v t.leaves) (eqb v t.reaches)
      where
        other : (q a b : Bool) → one (q && (a || b)) ≤ one (q && b) + one (q && a)
        other q a b = grind (arith, nat_tests)

    both_sides : (c v : ℕ) → load v (map (transfer_at graph.transfers) (edges_of colours c m)) ≤ leaving_in graph ds colours c v + entering_in graph ds colours c v
    both_sides c v =
        let here : ℕ → Bool = λ e. eqb (colour_at colours e) c in
        let out : ℕ → ℕ = λ e. one (here e && eqb v (tail_of (transfer_at graph.transfers e) (is_forward ds e))) in
        let into : ℕ → ℕ = λ e. one (here e && eqb v (head_of (transfer_at graph.transfers e) (is_forward ds e))) in
        let each = sum_by-le_each (λ e. one (here e && touches v (transfer_at graph.transfers e))) (λ e. out e + into e) (range_with_len 0 m) (λ k d h. let e = get_or (range_with_len 0 m) k d in at_ends (here e) (transfer_at graph.transfers e) (is_forward ds e) v) in
        omega (
          arith,
          each,
          sum_by-add out into (range_with_len 0 m),
          sum_by-map (λ t. one (touches v t)) (transfer_at graph.transfers) (edges_of colours c m),
          count_by-filter (λ e. touches v (transfer_at graph.transfers e)) here (range_with_len 0 m),
        )

-- From a complete proper colouring of nodes on two sides to colours that spread the edges of each disk.
use Rattle.mig_duplex.proofs.Common.{All, AreColours, AreOnSides, AreSides, AreThrough, Bool, Colour, Colouring, Copied, CopyId, DiskId, EdgeId, Incoming, IsGraph, IsInRange, IsLimited, IsProper}
use Rattle.mig_duplex.proofs.Common.{IsSplitAt, IsSpread, Joint, KeepsLimit, Leads, Limits, List, None, Option, Outgoing, Side, Some, Split, StandsForEnds, Transfers, Transfer, [], ap, arith, blank}
use Rattle.mig_duplex.proofs.Common.{cases_eq, colour_at, colour_at_disk, count_by, count_by-filter, div_ceil, div_ceil-le, div_ceil_times, drop, edges_of, entering_in, eqb, listed_disk, occurrences}
use Rattle.mig_duplex.proofs.Common.{false, false≢true, first_copy, get_or, get_or-drop, get_or-replicate, get_or-take, get_or_default, head_of, heads, in_of, in_range, inl, inr, is_duplex}
use Rattle.mig_duplex.proofs.Common.{is_forward, is_split, leaving_in, length, length-drop, length-map, length-range_with_len, length-replicate, length-take-le, limit, map, max, mul-le-mul_right}
use Rattle.mig_duplex.proofs.Common.{mul_comm, nat_tests, no_disk, one, out_of, passes, quotient, range_with_len, refl, replicate, rounds_for, same_Some, same_copy, second_of, side_load}
use Rattle.mig_duplex.proofs.Common.{slice_get, slice_get-get_or, slice_get_within, subst, suc, sum_by-cons, sum_by-map, sum_by-same_each, sym, tail_of, tails, take, transfer_at, true}
use Rattle.mig_duplex.proofs.Common.{value_within_quotient, zero, ℕ, ◌&&◌, ◌+◌, ◌-◌, ◌<◌, ◌||◌, ◌∙◌, ◌∷◌, ◌≡◌, ◌≢◌, ◌≤◌, ◌⊎◌}
use Rattle.mig_duplex.proofs.Quotients.{limits_of}
use Rattle.mig_base.proofs.Copies.{IsProper as IsProperCopies}

-- ---- the board

pub nodes_in_range : (left nodes : ℕ) (ends : List (CopyId × CopyId)) → AreOnSides left nodes ends → All (λ p. (p.0.0 < nodes) × (p.1.0 < nodes)) ends
nodes_in_range left nodes ends a k d h = subst (λ (p : CopyId × CopyId). (p.0.0 < nodes) × (p.1.0 < nodes)) (get_or_default ends k (record { 0 = 0 }, record { 0 = 0 }) d h) (omega (arith, a k h), omega (arith, a k h))

pub nodes_differ : (left nodes : ℕ) (ends : List (CopyId × CopyId)) → AreOnSides left nodes ends → All (λ p. p.0 ≢ p.1) ends
nodes_differ left nodes ends a k d h = subst (λ (p : CopyId × CopyId). p.0 ≢ p.1) (get_or_default ends k (record { 0 = 0 }, record { 0 = 0 }) d h) (λ e. absurd (omega (arith, a k h, ap (λ (c : CopyId). c.0) e)))

side_at : (left nodes : ℕ) (ends : List (CopyId × CopyId)) → AreOnSides left nodes ends → (e : EdgeId) (v w : CopyId) → slice_get ends e.0 ≡ Some (v, w) → (v.0 < left) × (left ≤ w.0)
side_at left nodes ends a e v w row =
    let h : e.0 < length ends = slice_get_within ends e.0 (v, w) row in
    let p = get_or ends e.0 (record { 0 = 0 }, record { 0 = 0 }) in
    let same : p ≡ (v, w) = same_Some p (v, w) (sym (slice_get-get_or ends e.0 (record { 0 = 0 }, record { 0 = 0 }) h) ∙ row) in
    (omega (arith, a e.0 h, ap (λ (x : CopyId × CopyId). x.0.0) same), omega (arith, a e.0 h, ap (λ (x : CopyId × CopyId). x.1.0) same))

pub two_sided : (g : Colouring) (left nodes : ℕ) (ends : List (CopyId × CopyId)) → g.ends ≡ ends → AreOnSides left nodes ends → IsSplitAt g left
two_sided g left nodes ends same a e v w joins =
    elim joins [
      | inl row ↦ (let x = side_at left nodes ends a e v w (subst (λ (y : List (CopyId × CopyId)). slice_get y e.0 ≡ Some (v, w)) same row) in inl (x.0, x.1))
      | inr row ↦ (let x = side_at left nodes ends a e w v (subst (λ (y : List (CopyId × CopyId)). slice_get y e.0 ≡ Some (w, v)) same row) in inr (x.1, x.0))
    ]

pub blank_plain : (g : Colouring) (nodes colours : ℕ) (ends : List (CopyId × CopyId)) → g ≡ blank nodes colours ends → (e : EdgeId) → e.0 < length g.ends → slice_get g.painted e.0 ≡ Some None
blank_plain g nodes colours ends same e h =
    let n : Option Colour = None in
    let xs : List (Option Colour) = replicate (length ends) n in
    let there : e.0 < length ends = subst (λ (x : Colouring). e.0 < length x.ends) same h in
    ap (λ (x : Colouring). slice_get x.painted e.0) same ∙ slice_get-get_or xs e.0 n (omega (arith, there, length-replicate (length ends) n)) ∙ ap (λ (x : Option Colour). Some x) (get_or-replicate (length ends) e.0 n n there)

-- ---- edges of one colour at a copy

or_cases : (a b k : ℕ) → (eqb a k || eqb b k) ≡ true → (a ≡ k) ⊎ (b ≡ k)
or_cases a b k h = elim (cases_eq a k) [ inl e ↦ inl e | inr ne ↦ inr (right a b k ne h) ]
  where
    right : (a b k : ℕ) → a ≢ k → (eqb a k || eqb b k) ≡ true → b ≡ k
    right a b k ne h = grind (arith, nat_tests)

-- an edge that meets a node leads from it
pub leads_at : (g : Colouring) (colours : List Colour) (e k : ℕ) → AreColours g colours → e < length g.ends → (eqb (first_copy g.ends e) k || eqb (second_of g.ends e) k) ≡ true → (w : CopyId) × Leads g (record { 0 = k }) (record { 0 = colour_at colours e }) (record { 0 = e }) w
leads_at g colours e k a h met =
    let p = get_or g.ends e (record { 0 = 0 }, record { 0 = 0 }) in
    let row : slice_get g.ends e ≡ Some p = slice_get-get_or g.ends e (record { 0 = 0 }, record { 0 = 0 }) h in
    elim (or_cases (first_copy g.ends e) (second_of g.ends e) k met) [
      | inl s ↦ (p.1, record { joins = inl (row ∙ ap (λ (c : CopyId). Some (c, p.1)) (same_copy p.0 (record { 0 = k }) s)); colour = a.has e h })
      | inr s ↦ (p.0, record { joins = inr (row ∙ ap (λ (c : CopyId). Some (p.0, c)) (same_copy p.1 (record { 0 = k }) s)); colour = a.has e h })
    ]

-- no two edges of one colour meet at a node
pub apart_at : (g : Colouring) (colours : List Colour) (d e k : ℕ) → IsProper g → AreColours g colours → d < e → e < length g.ends → colour_at colours d ≡ colour_at colours e
    → (eqb (first_copy g.ends d) k || eqb (second_of g.ends d) k) ≡ true → (eqb (first_copy g.ends e) k || eqb (second_of g.ends e) k) ≡ true → ⊥
apart_at g colours d e k proper a lt there same m n =
    let x = leads_at g colours d k a (omega (arith, lt, there)) m in
    let y = leads_at g colours e k a there n in
    let turned : Leads g (record { 0 = k }) (record { 0 = colour_at colours e }) (record { 0 = d }) x.0 = subst (λ (c : ℕ). Leads g (record { 0 = k }) (record { 0 = c }) (record { 0 = d }) x.0) same x.1 in
    let eq = ap (λ (i : EdgeId). i.0) (proper.apart (record { 0 = k }) (record { 0 = colour_at colours e }) (record { 0 = d }) (record { 0 = e }) x.0 y.0 turned y.1) in
    absurd (omega (arith, eq, lt))

pub home_is : (homes : List DiskId) (k : ℕ) → get_or (map (λ (d : DiskId). d.0) homes) k 0 ≡ listed_disk homes k
home_is [] k = refl
home_is (d ∷ ds) zero = refl
home_is (d ∷ ds) (suc k) = home_is ds k

-- ---- the edges at one side of the copies

-- edges of one colour with this end are at most as many as the disk has copies, where each edge is at a copy of its end, and at its copy's node
at_side : (g : Colouring) (m : ℕ) (node at end : ℕ → ℕ) (homes : List DiskId) (colours : List Colour) → IsProper g → AreColours g colours → length g.ends ≡ m
    → ((e : ℕ) → e < m → (eqb (first_copy g.ends e) (node (at e)) || eqb (second_of g.ends e) (node (at e))) ≡ true) → ((e : ℕ) → e < m → at e < length homes) → ((e : ℕ) → e < m → listed_disk homes (at e) ≡ end e)
    → (c v : ℕ) → count_by (λ e. eqb (colour_at colours e) c && eqb v (end e)) (range_with_len 0 m) ≤ occurrences v homes
at_side g m node at end homes colours proper a len met there home c v =
    let x : Copied = record { edges = m; homes = map (λ (d : DiskId). d.0) homes; first = at; second = at; transfer = λ e. record { leaves = end e; reaches = end e }; colour = colour_at colours } in
    let stands : (e : ℕ) → e < m → StandsForEnds x e = λ e h. record {
      first_there = omega (arith, there e h, length-map homes (λ (d : DiskId). d.0));
      second_there = omega (arith, there e h, length-map homes (λ (d : DiskId). d.0));
      leaves = inl (home_is homes (at e) ∙ home e h);
      reaches = inl (home_is homes (at e) ∙ home e h);
    } in
    let alone : IsProperCopies x = λ d e k lt h same p q. apart_at g colours d e (node k) proper a lt (omega (arith, h, len)) same
    (subst (λ j. (eqb (first_copy g.ends d) (node j) || eqb (second_of g.ends d) (node j)) ≡ true) (is_at (at d) k p) (met d (omega (arith, lt, h))))
    (subst (λ j. (eqb (first_copy g.ends e) (node j) || eqb (second_of g.ends e) (node j)) ≡ true) (is_at (at e) k q) (met e h)) in
    let law = colour_at_disk x c v stands alone in
    let same = sum_by-same_each (λ e. one (eqb (colour_at colours e) c && eqb v (end e))) (λ e. one (eqb (colour_at colours e) c && (eqb v (end e) || eqb v (end e)))) (range_with_len 0 m) (λ k d h. twice (eqb (colour_at colours (get_or (range_with_len 0 m) k d)) c) (eqb v (end (get_or (range_with_len 0 m) k d)))) in
    omega (arith, law, same, sum_by-map (λ n. one (eqb n v)) (λ (d : DiskId). d.0) homes)
  where
    is_at : (a k : ℕ) → (eqb a k || eqb a k) ≡ true → a ≡ k
    is_at a k h = elim (or_cases a a k h) [ inl e ↦ e | inr e ↦ e ]

    twice : (a b : Bool) → one (a && b) ≡ one (a && (b || b))
    twice true true = refl
    twice true false = refl
    twice false b = refl

-- colours on nodes that the copies of two sides share spread the edges
pub spread_by_sides : (g : Colouring) (graph : Transfers) (q : ℕ) (ds : List Bool) (left : ℕ) (node : ℕ → ℕ) (ends : List (CopyId × CopyId)) (homes : List DiskId) (colours : List Colour)
    → AreSides q graph ds left ends homes → AreThrough node ends g.ends → IsProper g → AreColours g colours → g.colours ≡ q → IsSpread graph q ds colours
spread_by_sides g graph q ds left node ends homes colours a t proper c is_q = record {
  one_each = c.one_each ∙ t.one_each ∙ a.one_each;
  below = λ e d h. subst (λ (k : Colour). k.0 < q) (get_or_default colours e (record { 0 = 0 }) d h) (omega (arith, is_q, proper.colours_in_range (record { 0 = e }) (record { 0 = colour_at colours e }) (c.has e (omega (arith, h, c.one_each)))));
  leaving = λ k v h. omega (
    arith,
    a.left_number v h,
    at_side g m node (first_copy ends) (λ e. tail_of (transfer_at graph.transfers e) (is_forward ds e)) (take left homes) colours proper c len
        (λ e h. at_first (first_copy g.ends e) (second_of g.ends e) (node (first_copy ends e)) (t.first e (omega (arith, h, a.one_each))))
        (λ e h. omega (arith, a.there e (omega (arith, h, a.one_each)), length-take-le left homes (left_within e h)))
        (λ e h. ap (λ (d : DiskId). d.0) (get_or-take left homes (first_copy ends e) (record { 0 = 0 }) (omega (arith, a.there e (omega (arith, h, a.one_each))))) ∙ a.first e (omega (arith, h, a.one_each)))
        k v,
  );
  entering = λ k v h. omega (
    arith,
    a.right_number v h,
    at_side g m (λ j. node (left + j)) (λ e. second_of ends e - left) (λ e. head_of (transfer_at graph.transfers e) (is_forward ds e)) (drop left homes) colours proper c len
        (λ e h. at_second (first_copy g.ends e) (second_of g.ends e) (node (left + (second_of ends e - left))) (t.second e (omega (arith, h, a.one_each)) ∙ ap node (whole e h)))
        (λ e h. omega (arith, a.there e (omega (arith, h, a.one_each)), length-drop left homes))
        (λ e h. ap (λ (d : DiskId). d.0) (get_or-drop left homes (second_of ends e - left) (record { 0 = 0 })) ∙ ap (λ j. listed_disk homes j) (sym (whole e h)) ∙ a.second e (omega (arith, h, a.one_each)))
        k v,
  );
}
  where
    m : ℕ
    m = length graph.transfers

    len : length g.ends ≡ length graph.transfers
    len = t.one_each ∙ a.one_each

    left_within : (e : ℕ) → e < length graph.transfers → left ≤ length homes
    left_within e h = omega (arith, a.there e (omega (arith, h, a.one_each)))

    whole : (e : ℕ) → e < length graph.transfers → second_of ends e ≡ left + (second_of ends e - left)
    whole e h = omega (arith, a.there e (omega (arith, h, a.one_each)))

    at_first : (x y k : ℕ) → x ≡ k → (eqb x k || eqb y k) ≡ true
    at_first x y k h = grind (arith, nat_tests)

    at_second : (x y k : ℕ) → y ≡ k → (eqb x k || eqb y k) ≡ true
    at_second x y k h = grind (arith, nat_tests)

-- ---- split limits, by the directions of the transfers

-- the edges that leave a disk by its directions, and those that enter it, are then those that leave it and that reach it
forward_out : (v : ℕ) (ts : List Transfer) (ds : List Bool) → length ds ≡ length ts → ((k : ℕ) → k < length ts → is_forward ds k ≡ true) → out_of ts ds v ≡ side_load Outgoing v ts
forward_out v [] ds len forward = refl
forward_out v (t ∷ ts) [] len forward = absurd (omega (arith, len))
forward_out v (t ∷ ts) (d ∷ ds) len forward =
    let tail : tail_of t d ≡ t.leaves = ap (tail_of t) (forward 0 (omega arith)) in
    omega (arith, sum_by-cons (λ n. one (eqb n v)) (tail_of t d) (tails ts ds), sum_by-cons (λ x. one (passes Outgoing v x)) t ts, ap (λ n. one (eqb n v)) tail, turned t.leaves v, forward_out v ts ds (omega (arith, len)) (λ k l. forward (suc k) (omega (arith, l))))
  where
    turned : (a b : ℕ) → one (eqb a b) ≡ one (eqb b a)
    turned a b = grind (arith, nat_tests)

forward_in : (v : ℕ) (ts : List Transfer) (ds : List Bool) → length ds ≡ length ts → ((k : ℕ) → k < length ts → is_forward ds k ≡ true) → in_of ts ds v ≡ side_load Incoming v ts
forward_in v [] ds len forward = refl
forward_in v (t ∷ ts) [] len forward = absurd (omega (arith, len))
forward_in v (t ∷ ts) (d ∷ ds) len forward =
    let head : head_of t d ≡ t.reaches = ap (head_of t) (forward 0 (omega arith)) in
    omega (arith, sum_by-cons (λ n. one (eqb n v)) (head_of t d) (heads ts ds), sum_by-cons (λ x. one (passes Incoming v x)) t ts, ap (λ n. one (eqb n v)) head, turned t.reaches v, forward_in v ts ds (omega (arith, len)) (λ k l. forward (suc k) (omega (arith, l))))
  where
    turned : (a b : ℕ) → one (eqb a b) ≡ one (eqb b a)
    turned a b = grind (arith, nat_tests)

-- a side's load over the quotient is at most its limit
within_limit : (l limit q : ℕ) → 1 ≤ limit → 0 < q → div_ceil l limit ≤ q → div_ceil l q ≤ limit
within_limit l limit q some pos most = div_ceil-le l q limit pos (omega (arith, (div_ceil_times l limit some).0, mul-le-mul_right limit most, mul_comm limit q))

-- the edges of a colour as transfers, counted by a side
in_colour : (graph : Transfers) (colours : List Colour) (c v : ℕ) (side : Side) → side_load side v (map (transfer_at graph.transfers) (edges_of colours c (length graph.transfers))) ≡ count_by (λ e. eqb (colour_at colours e) c && passes side v (transfer_at graph.transfers e)) (range_with_len 0 (length graph.transfers))
in_colour graph colours c v side =
    sum_by-map (λ t. one (passes side v t)) (transfer_at graph.transfers) (edges_of colours c (length graph.transfers))
    ∙ count_by-filter (λ e. passes side v (transfer_at graph.transfers e)) (λ e. eqb (colour_at colours e) c) (range_with_len 0 (length graph.transfers))

pub spread_split : (graph : Transfers) (ds : List Bool) (colours : List Colour) → IsGraph graph → is_duplex graph.disks ≡ true → 1 ≤ quotient graph → length ds ≡ length graph.transfers
    → ((k : ℕ) → k < length graph.transfers → is_forward ds k ≡ true) → IsSpread graph (quotient graph) ds colours → IsLimited graph (quotient graph) colours
spread_split graph ds colours valid split pos len forward s = record {
  one_each = s.one_each;
  below = s.below;
  within = λ c v h. keeps c v (limits_of graph v) (valid.disks_valid v no_disk h).0 (valid.one_kind v no_disk h ∙ split) (value_within_quotient graph v h) (s.leaving c v h) (s.entering c v h);
}
  where
    m : ℕ
    m = length graph.transfers

    straight : (k d : ℕ) → k < length (range_with_len 0 m) → is_forward ds (get_or (range_with_len 0 m) k d) ≡ true
    straight k d h = ap (is_forward ds) (in_range m k d (omega (arith, h, length-range_with_len 0 m))) ∙ forward k (omega (arith, h, length-range_with_len 0 m))

    leaves : (c v : ℕ) → side_load Outgoing v (map (transfer_at graph.transfers) (edges_of colours c m)) ≡ leaving_in graph ds colours c v
    leaves c v = in_colour graph colours c v Outgoing ∙ sum_by-same_each (λ e. one (eqb (colour_at colours e) c && eqb v (transfer_at graph.transfers e).leaves)) (λ e. one (eqb (colour_at colours e) c && eqb v (tail_of (transfer_at graph.transfers e) (is_forward ds e)))) (range_with_len 0 m)
        (λ k d h. let e = get_or (range_with_len 0 m) k d in ap (λ b. one (eqb (colour_at colours e) c && eqb v (tail_of (transfer_at graph.transfers e) b))) (sym (straight k d h)))

    reaches : (c v : ℕ) → side_load Incoming v (map (transfer_at graph.transfers) (edges_of colours c m)) ≡ entering_in graph ds colours c v
    reaches c v = in_colour graph colours c v Incoming ∙ sum_by-same_each (λ e. one (eqb (colour_at colours e) c && eqb v (transfer_at graph.transfers e).reaches)) (λ e. one (eqb (colour_at colours e) c && eqb v (head_of (transfer_at graph.transfers e) (is_forward ds e)))) (range_with_len 0 m)
        (λ k d h. let e = get_or (range_with_len 0 m) k d in ap (λ b. one (eqb (colour_at colours e) c && eqb v (head_of (transfer_at graph.transfers e) b))) (sym (straight k d h)))

    left : (a b n : ℕ) → max a b ≤ n → a ≤ n
    left a b n h = omega (arith, h)

    right : (a b n : ℕ) → max a b ≤ n → b ≤ n
    right a b n h = omega (arith, h)

    keeps : (c v : ℕ) (limits : Limits) → IsInRange limits → is_split limits ≡ true → rounds_for limits v graph.transfers ≤ quotient graph → leaving_in graph ds colours c v ≤ div_ceil (out_of graph.transfers ds v) (quotient graph) → entering_in graph ds colours c v ≤ div_ceil (in_of graph.transfers ds v) (quotient graph) → KeepsLimit limits v (map (transfer_at graph.transfers) (edges_of colours c m))
    keeps c v (Joint l) range split most out into = absurd (false≢true split)
    keeps c v (Split outgoing incoming) range split most out into = (
      omega (arith, leaves c v, out, ap (λ n. div_ceil n (quotient graph)) (forward_out v graph.transfers ds len forward), within_limit (side_load Outgoing v graph.transfers) outgoing (quotient graph) range.0.0 pos (left _ _ _ most)),
      omega (arith, reaches c v, into, ap (λ n. div_ceil n (quotient graph)) (forward_in v graph.transfers ds len forward), within_limit (side_load Incoming v graph.transfers) incoming (quotient graph) range.1.0 pos (right _ _ _ most)),
    )

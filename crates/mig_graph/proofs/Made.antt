-- What `of` makes.
use Rattle.mig_graph.proofs.Common.{All, All-map, All-tail, AreFewLoads, AreLoads, Bool, Disk, Edge, EvenBy, Incoming, Inside, IsCounted, IsEven, IsEvenBy, IsGraph, IsInput, Joint, Limits, List}
use Rattle.mig_graph.proofs.Common.{InputLists, MAX_ITEMS, MatchBool, Outgoing, Side, Split, Transfers, Transfer, [], ap, append-nil, arith, cases_eq, cond, count_by-le-length, differ, disk_value}
use Rattle.mig_graph.proofs.Common.{div_ceil, edge_item, edge_transfer, end_on, eq-eqb, eqb, false, false≢true, filter, filter-append, filter_passes, fold_push, get_or, get_or-set_other}
use Rattle.mig_graph.proofs.Common.{get_or-set_same, get_or_default, greatest, inl, inr, is_duplex, is_relocated, is_split, joint_disks, length, length-filter, length-map, length-range_with_len}
use Rattle.mig_graph.proofs.Common.{length-set, length-take-le, load, map, map-append, map-range_with_len_more, map_same, max, most_ends, moves, moves_there, nat_tests, ne_eqb, no_disk, no_spot}
use Rattle.mig_graph.proofs.Common.{not, not_none, one, passes, quotient, quotient_by, range_below, range_more, range_with_len, refl, rounds_by, rounds_for, set, side_load, source, spot_disk}
use Rattle.mig_graph.proofs.Common.{subst, suc, sum_by-cons, sum_by_push, sym, take, take_more, target, touches, transfer_graph, transfers_of, transfer, transfers, true, zero, ℕ, ◌%◌, ◌++◌, ◌+◌, ◌<◌, ◌||◌}
use Rattle.mig_graph.proofs.Common.{◌↔◌, ◌∙◌, ◌∷◌, ◌≡◌, ◌≢◌, ◌≤◌}

pub moves_yes : (input : InputLists) (i : ℕ) → is_relocated input i ≡ true → filter (is_relocated input) (range_with_len 0 (i + 1)) ≡ filter (is_relocated input) (range_with_len 0 i) ++ i ∷ []
moves_yes input i t = ap (filter (is_relocated input)) (range_more i) ∙ filter-append (is_relocated input) (range_with_len 0 i) (i ∷ []) ∙ ap (λ b. filter (is_relocated input) (range_with_len 0 i) ++ cond b (i ∷ []) []) t

pub moves_no : (input : InputLists) (i : ℕ) → is_relocated input i ≡ false → filter (is_relocated input) (range_with_len 0 (i + 1)) ≡ filter (is_relocated input) (range_with_len 0 i)
moves_no input i t = ap (filter (is_relocated input)) (range_more i) ∙ filter-append (is_relocated input) (range_with_len 0 i) (i ∷ []) ∙ ap (λ b. filter (is_relocated input) (range_with_len 0 i) ++ cond b (i ∷ []) []) t ∙ append-nil (filter (is_relocated input) (range_with_len 0 i))

pub items_yes : (input : InputLists) (edges : List Edge) (e : Edge) (i : ℕ) → is_relocated input i ≡ true → e.item.0 ≡ i → map edge_item edges ≡ filter (is_relocated input) (range_with_len 0 i) → map edge_item (edges ++ e ∷ []) ≡ filter (is_relocated input) (range_with_len 0 (i + 1))
items_yes input edges e i t s h = map-append edge_item edges (e ∷ []) ∙ ap (λ (n : ℕ). map edge_item edges ++ n ∷ []) s ∙ ap (λ (xs : List ℕ). xs ++ i ∷ []) h ∙ sym (moves_yes input i t)

pub transfers_yes : (input : InputLists) (edges : List Edge) (e : Edge) (i : ℕ) → is_relocated input i ≡ true → edge_transfer e ≡ transfer input i → map edge_transfer edges ≡ map (transfer input) (filter (is_relocated input) (range_with_len 0 i)) → map edge_transfer (edges ++ e ∷ []) ≡ map (transfer input) (filter (is_relocated input) (range_with_len 0 (i + 1)))
transfers_yes input edges e i t s h =
    map-append edge_transfer edges (e ∷ []) ∙ ap (λ (n : Transfer). map edge_transfer edges ++ n ∷ []) s ∙ ap (λ (xs : List Transfer). xs ++ transfer input i ∷ []) h ∙ sym (map-append (transfer input) (filter (is_relocated input) (range_with_len 0 i)) (i ∷ [])) ∙ ap (map (transfer input)) (sym (moves_yes input i t))

pub differs : (a b : ℕ) → a ≢ b → not (eqb a b) ≡ true
differs a b h = ap not (ne_eqb a b h)

pub same : (a b : ℕ) → a ≡ b → not (eqb a b) ≡ false
same a b h = ap not (eq-eqb a b h)

pub quotient_more : (disks : List Disk) (outgoing incoming : List ℕ) (n : ℕ) → quotient_by disks outgoing incoming (n + 1) ≡ max (quotient_by disks outgoing incoming n) (rounds_by (get_or disks n no_disk).limits (get_or outgoing n 0) (get_or incoming n 0))
quotient_more disks outgoing incoming n =
    let f : ℕ → ℕ = λ v. rounds_by (get_or disks v no_disk).limits (get_or outgoing v 0) (get_or incoming v 0) in
    ap greatest (map-range_with_len_more f 0 n n (omega arith)) ∙ fold_push max 0 (map f (range_with_len 0 n)) (f n)

-- ---- loads

-- a transfer that joins two disks counts once at each, on one side
touch : (v a b : ℕ) → a ≢ b → one (eqb v a || eqb v b) ≡ one (eqb v a) + one (eqb v b)
touch v a b ne = grind (arith, nat_tests)

pub load_apart : (v : ℕ) (transfers : List Transfer) → All (λ t. t.leaves ≢ t.reaches) transfers → load v transfers ≡ side_load Outgoing v transfers + side_load Incoming v transfers
load_apart v [] apart = refl
load_apart v (t ∷ ts) apart = omega (
  arith,
  sum_by-cons (λ x. one (touches v x)) t ts,
  sum_by-cons (λ x. one (passes Outgoing v x)) t ts,
  sum_by-cons (λ x. one (passes Incoming v x)) t ts,
  touch v t.leaves t.reaches (apart 0 t (omega arith)),
  load_apart v ts (All-tail (λ x. x.leaves ≢ x.reaches) t ts apart),
)

-- the next transfer counts at its end on the side
side_more : (side : Side) (edges : List Edge) (i v : ℕ) (d : Edge) → i < length edges → side_load side v (map edge_transfer (take (i + 1) edges)) ≡ side_load side v (map edge_transfer (take i edges)) + one (eqb v (end_on side (edge_transfer (get_or edges i d))))
side_more side edges i v d h =
    let e = get_or edges i d in
    let t : map edge_transfer (take (i + 1) edges) ≡ map edge_transfer (take i edges) ++ edge_transfer e ∷ [] = ap (map edge_transfer) (take_more edges i d h) ∙ map-append edge_transfer (take i edges) (e ∷ []) in
    ap (side_load side v) t ∙ sum_by_push (λ x. one (passes side v x)) (map edge_transfer (take i edges)) (edge_transfer e) ∙ ap (λ n. side_load side v (map edge_transfer (take i edges)) + n) (counts_at side (edge_transfer e))
  where
    counts_at : (side : Side) (t : Transfer) → one (passes side v t) ≡ one (eqb v (end_on side t))
    counts_at Outgoing t = refl
    counts_at Incoming t = refl

after_one : (loads : List ℕ) (a v n : ℕ) → a < length loads → n ≡ get_or loads a 0 + 1 → get_or (set loads a n) v 0 ≡ get_or loads v 0 + one (eqb v a)
after_one loads a v n h is = elim (cases_eq v a) [
  | inl e ↦ ap (λ k. get_or (set loads a n) k 0) e ∙ get_or-set_same loads a n 0 h ∙ is ∙ ap (λ k. get_or loads k 0 + 1) (sym e) ∙ ap (λ b. get_or loads v 0 + one b) (sym (eq-eqb v a e))
  | inr ne ↦ get_or-set_other loads a v n 0 ne ∙ omega (arith, ap one (ne_eqb v a ne))
]

pub AreLoads-more : (side : Side) (disks : ℕ) (edges : List Edge) (loads : List ℕ) (i a n : ℕ) (d : Edge) → i < length edges → a ≡ end_on side (edge_transfer (get_or edges i d)) → a < disks → n ≡ get_or loads a 0 + 1 →
    AreLoads side disks (map edge_transfer (take i edges)) loads → AreLoads side disks (map edge_transfer (take (i + 1) edges)) (set loads a n)
AreLoads-more side disks edges loads i a n d h is there is_n before = record {
  len = length-set loads a n ∙ before.len;
  counted = λ v hv. after_one loads a v n (omega (arith, there, before.len)) is_n ∙ omega (arith, before.counted v hv, side_more side edges i v d h, ap (λ k. one (eqb v k)) is);
}

pub load_small : (side : Side) (disks : ℕ) (edges : List Edge) (loads : List ℕ) (i v : ℕ) → i ≤ length edges → v < disks → AreLoads side disks (map edge_transfer (take i edges)) loads → get_or loads v 0 ≤ i
load_small side disks edges loads i v h hv a = omega (arith, a.counted v hv, count_by-le-length (passes side v) (map edge_transfer (take i edges)), length-map (take i edges) edge_transfer, length-take-le i edges h)

-- the end of an edge on a side is a disk
pub end_there : (side : Side) (e : Edge) (a n : ℕ) → a ≡ end_on side (edge_transfer e) → e.from.0 < n → e.to.0 < n → a < n
end_there Outgoing e a n is from to = omega (arith, is, from)
end_there Incoming e a n is from to = omega (arith, is, to)

-- loads are few where transfers are
pub few_loads : (side : Side) (disks : List Disk) (transfers : List Transfer) (loads : List ℕ) → length transfers ≤ MAX_ITEMS → AreLoads side (length disks) transfers loads → AreFewLoads disks loads
few_loads side disks transfers loads few a = record {
  len = a.len;
  most = λ v d h. omega (arith, get_or_default loads v d 0 h, a.counted v (omega (arith, h, a.len)), count_by-le-length (passes side v) transfers, few);
}

-- ---- the whole graph

get_or-map : {X Y : Type 0} (f : X → Y) (xs : List X) (k : ℕ) (d : X) → get_or (map f xs) k (f d) ≡ f (get_or xs k d)
get_or-map f [] k d = refl
get_or-map f (x ∷ xs) zero d = refl
get_or-map f (x ∷ xs) (suc k) d = get_or-map f xs k d

pub All-unmap : {X Y : Type 0} (P : Y → Type 0) (f : X → Y) (xs : List X) → All P (map f xs) → All (λ x. P (f x)) xs
All-unmap {X} {Y} P f xs a k d h = subst P (get_or-map f xs k d) (a k (f d) (omega (arith, h, length-map xs f)))

pub valid_graph : (input : InputLists) → IsInput input → IsGraph (transfer_graph input)
valid_graph input v =
    let n = length input.items in
    let M = moves input in
    let few : length M ≤ n = omega (arith, length-filter (is_relocated input) (range_with_len 0 n), count_by-le-length (is_relocated input) (range_with_len 0 n), length-range_with_len 0 n) in
    let same : length (transfers input) ≡ length M = length-map M (transfer input) in
    let there = moves_there input in
    record {
      disks_most = v.few_disks;
      disks_valid = v.disk_ranges;
      one_kind = v.one_kind;
      edges_most = omega (arith, same, few, v.few_items);
      items_len = sym same;
      leaves_there = All-map (λ (t : Transfer). t.leaves < length input.disks) (transfer input) M (λ k d h. spot_disk input.disks (get_or input.spots (get_or M k d) no_spot) (v.on_disks (get_or M k d) no_spot (omega (arith, there k d h, v.spots_len))));
      reaches_there = All-map (λ (t : Transfer). t.reaches < length input.disks) (transfer input) M (λ k d h. v.next_disks (get_or M k d) (record { 0 = 0 }) (omega (arith, there k d h, v.next_len)));
      apart = All-map (λ (t : Transfer). t.leaves ≢ t.reaches) (transfer input) M (λ k d h. differ (source input (get_or M k d)) (target input (get_or M k d)) (filter_passes (is_relocated input) (range_with_len 0 n) k d h));
    }

-- the rounds that a disk needs, by its loads on both sides
rounds_same : (limits : Limits) (v a b : ℕ) (transfers : List Transfer) → All (λ t. t.leaves ≢ t.reaches) transfers → a ≡ side_load Outgoing v transfers → b ≡ side_load Incoming v transfers → rounds_by limits a b ≡ rounds_for limits v transfers
rounds_same (Joint limit) v a b transfers apart out into = let whole : a + b ≡ load v transfers = omega (arith, out, into, load_apart v transfers apart) in ap (λ n. div_ceil n limit) whole
rounds_same (Split outgoing incoming) v a b transfers apart out into = ap (λ n. max (div_ceil n outgoing) (div_ceil b incoming)) out ∙ ap (λ n. max (div_ceil (side_load Outgoing v transfers) outgoing) (div_ceil n incoming)) into

same_quotient : (graph : Transfers) (outgoing incoming : List ℕ) → IsGraph graph → AreLoads Outgoing (length graph.disks) graph.transfers outgoing → AreLoads Incoming (length graph.disks) graph.transfers incoming → quotient_by graph.disks outgoing incoming (length graph.disks) ≡ quotient graph
same_quotient graph outgoing incoming valid out into =
    let n = length graph.disks in
    ap greatest (map_same (λ v. rounds_by (get_or graph.disks v no_disk).limits (get_or outgoing v 0) (get_or incoming v 0)) (disk_value graph) (range_with_len 0 n)
    (λ k d h. let v = get_or (range_with_len 0 n) k d in rounds_same (get_or graph.disks v no_disk).limits v (get_or outgoing v 0) (get_or incoming v 0) graph.transfers valid.apart (out.counted v (range_below n k d h)) (into.counted v (range_below n k d h))))

even_cases : (b : Bool) (P Q : Type 0) → (P ↔ Q) → MatchBool b P (¬ P) → (b ≡ true) ↔ Q
even_cases true P Q x h = (λ _. x.0 h, λ _. refl)
even_cases false P Q x h = (λ e. absurd (false≢true e), λ q. absurd (h (x.1 q)))

-- what evenness by a load says of a disk's limits, and what it needs
even_joint : (limits : Limits) (load : ℕ) → IsEvenBy limits load → is_split limits ≡ false
even_joint (Joint limit) load even = refl
even_joint (Split outgoing incoming) load even = absurd even

even_limit : (limits : Limits) (load : ℕ) → IsEvenBy limits load → load ≢ 0 → most_ends limits % 2 ≡ 0
even_limit (Joint limit) load even some = even some
even_limit (Split outgoing incoming) load even some = absurd even

even_by : (limits : Limits) (load : ℕ) → is_split limits ≡ false → (load ≢ 0 → most_ends limits % 2 ≡ 0) → IsEvenBy limits load
even_by (Joint limit) load joint even = even
even_by (Split outgoing incoming) load joint even = absurd (false≢true (sym joint))

even_same : (graph : Transfers) (outgoing incoming : List ℕ) → IsGraph graph → AreLoads Outgoing (length graph.disks) graph.transfers outgoing → AreLoads Incoming (length graph.disks) graph.transfers incoming → EvenBy graph.disks outgoing incoming ↔ IsEven graph
even_same graph outgoing incoming valid out into = (
  λ e. (
    joint_disks graph.disks (λ v d h. subst (λ (x : Disk). is_split x.limits ≡ false) (get_or_default graph.disks v no_disk d h) (even_joint (limits_at v) (both v) (e v h))),
    λ v h t. even_limit (limits_at v) (both v) (e v h) (λ z. differ (load v graph.transfers) 0 t (sym (is_load v h) ∙ z)),
  ),
  λ e v h. even_by (limits_at v) (both v) (valid.one_kind v no_disk h ∙ e.0) (λ some. e.1 v h (not_none (load v graph.transfers) (λ z. some (is_load v h ∙ z)))),
)
  where
    limits_at : ℕ → Limits
    limits_at v = (get_or graph.disks v no_disk).limits

    both : ℕ → ℕ
    both v = get_or outgoing v 0 + get_or incoming v 0

    is_load : (v : ℕ) → v < length graph.disks → both v ≡ load v graph.transfers
    is_load v h = omega (arith, out.counted v h, into.counted v h, load_apart v graph.transfers valid.apart)

pub made_of : (g : Inside) (input : InputLists) → g.disks.items ≡ input.disks → map edge_item g.edges.items ≡ moves input → map edge_transfer g.edges.items ≡ transfers input → transfers_of g ≡ transfer_graph input
made_of g input d i t =
    ap (λ (x : List Disk). let y : Transfers = record { disks = x; items = map edge_item g.edges.items; transfers = map edge_transfer g.edges.items } in y) d
    ∙ ap (λ (x : List ℕ). let y : Transfers = record { disks = input.disks; items = x; transfers = map edge_transfer g.edges.items } in y) i
    ∙ ap (λ (x : List Transfer). let y : Transfers = record { disks = input.disks; items = moves input; transfers = x } in y) t

pub is_counted : (g : Inside) (input : InputLists) → IsInput input → g.disks.items ≡ input.disks → map edge_item g.edges.items ≡ moves input → map edge_transfer g.edges.items ≡ transfers input
    → AreLoads Outgoing (length g.disks.items) (map edge_transfer g.edges.items) g.outgoing.items → AreLoads Incoming (length g.disks.items) (map edge_transfer g.edges.items) g.incoming.items
    → g.quotient ≡ quotient_by g.disks.items g.outgoing.items g.incoming.items (length g.disks.items) → g.duplex ≡ is_duplex input.disks
    → MatchBool g.even (EvenBy g.disks.items g.outgoing.items g.incoming.items) (¬ EvenBy g.disks.items g.outgoing.items g.incoming.items) → IsCounted g
is_counted g input valid d i t out into q x e =
    let graph : IsGraph (transfers_of g) = subst (λ (x : Transfers). IsGraph x) (sym (made_of g input d i t)) (valid_graph input valid) in
    record {
      graph = graph;
      outgoing = out;
      incoming = into;
      quotient_is = q ∙ same_quotient (transfers_of g) g.outgoing.items g.incoming.items graph out into;
      duplex_is = x ∙ ap (λ (ds : List Disk). is_duplex ds) (sym d);
      even_is = even_cases g.even (EvenBy g.disks.items g.outgoing.items g.incoming.items) (IsEven (transfers_of g)) (even_same (transfers_of g) g.outgoing.items g.incoming.items graph out into) e;
    }

-- the edges of an input are few, and their ends are disks
pub edges_there : (input : InputLists) (edges es : List Edge) (n : ℕ) → IsInput input → map edge_transfer edges ≡ transfers input → es ≡ edges → n ≡ length input.disks → (length es ≤ MAX_ITEMS) × All (λ e. e.from.0 < n) es × All (λ e. e.to.0 < n) es
edges_there input edges es n valid is same disks =
    let g = valid_graph input valid in
    let whole : map edge_transfer es ≡ transfers input = ap (map edge_transfer) same ∙ is in (
      omega (arith, length-map es edge_transfer, ap (λ (x : List Transfer). length x) whole, g.edges_most),
      subst (λ m. All (λ e. e.from.0 < m) es) (sym disks) (All-unmap (λ t. t.leaves < length input.disks) edge_transfer es (subst (λ (x : List Transfer). All (λ t. t.leaves < length input.disks) x) (sym whole) g.leaves_there)),
      subst (λ m. All (λ e. e.to.0 < m) es) (sym disks) (All-unmap (λ t. t.reaches < length input.disks) edge_transfer es (subst (λ (x : List Transfer). All (λ t. t.reaches < length input.disks) x) (sym whole) g.reaches_there)),
    )

-- loads that were counted over equal lists
pub loads_in : (side : Side) (disks : List Disk) (edges es : List Edge) (n : ℕ) (loads : List ℕ) → n ≡ length disks → es ≡ edges → AreLoads side n (map edge_transfer es) loads → AreLoads side (length disks) (map edge_transfer edges) loads
loads_in side disks edges es n loads is same a = subst (λ (x : List Edge). AreLoads side (length disks) (map edge_transfer x) loads) same (subst (λ m. AreLoads side m (map edge_transfer es) loads) is a)

pub few_in : (side : Side) (disks ds : List Disk) (edges : List Edge) (loads ls : List ℕ) → ds ≡ disks → ls ≡ loads → length (map edge_transfer edges) ≤ MAX_ITEMS → AreLoads side (length disks) (map edge_transfer edges) loads → AreFewLoads ds ls
few_in side disks ds edges loads ls d l few a = subst (λ (x : List Disk). AreFewLoads x ls) (sym d) (subst (λ (x : List ℕ). AreFewLoads disks x) (sym l) (few_loads side disks (map edge_transfer edges) loads few a))

-- the edges of a disk are those that leave it and those that reach it
pub both_loads : (g : Inside) (v a b : ℕ) → IsCounted g → v < length g.disks.items → a ≡ get_or g.outgoing.items v a → b ≡ get_or g.incoming.items v b → a + b ≡ load v (transfers_of g).transfers
both_loads g v a b k h out into = omega (
  arith,
  out ∙ get_or_default g.outgoing.items v a 0 (omega (arith, h, k.outgoing.len)) ∙ k.outgoing.counted v h,
  into ∙ get_or_default g.incoming.items v b 0 (omega (arith, h, k.incoming.len)) ∙ k.incoming.counted v h,
  load_apart v (transfers_of g).transfers k.graph.apart,
)

pub load_few : (g : Inside) (v : ℕ) → IsCounted g → load v (transfers_of g).transfers ≤ MAX_ITEMS
load_few g v k = omega (arith, count_by-le-length (touches v) (transfers_of g).transfers, k.graph.edges_most)

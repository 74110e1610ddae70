-- The other disks as a list: what they take, and the places that they stand for.
use Rattle.mig_drain.proofs.Common.{All, All-head, All-map, All-tail, AreDiskCounts, AreFewest, AreSmall, Bool, DiskId, Err, IfOk, Incoming, InputLists, IsInput, IsShown, IsShownBy, List, Nothing, Ok}
use Rattle.mig_drain.proofs.Common.{Others, Own, Receiver, Result, Shown, Spot, [], all_free, all_take, ap, append-nil, arith, can_take, cases_eq, cases_lt, cond, count_by, count_by-le-length}
use Rattle.mig_drain.proofs.Common.{count_by_more_no, count_by_more_yes, disk_at, div_ceil, eq-eqb, eqb, false, filter, filter-append, flat_map, flat_map-append, free_elsewhere, free_slots}
use Rattle.mig_drain.proofs.Common.{get_or, get_or-set_other, get_or-set_same, get_or_append_left, get_or_push, incoming_limit, inl, inr, is_other}
use Rattle.mig_drain.proofs.Common.{length, length-append, length-filter, length-map, length-range_with_len, length-set}
use Rattle.mig_drain.proofs.Common.{length-take, length-take-le, limits_at, load, map, map-append, min}
use Rattle.mig_drain.proofs.Common.{mul-le-mul_left, mul-le-mul_right, ne_eqb, no_disk, no_spot, not, numbers, others, others_can_take, outgoing_limit, own_rounds, places, present, range_more}
use Rattle.mig_drain.proofs.Common.{range_with_len, rank, receiver, receiver_places, receivers_of, refl, replicate, set, side_positive, side_small, source, subst, suc, sum_by-cons}
use Rattle.mig_drain.proofs.Common.{sum_by-le-sum_by, sum_by-map, sym, take, take-map, take_more, takes, target, true, with_next, zero, ℕ, ◌*◌, ◌++◌, ◌+◌, ◌-◌, ◌<◌, ◌∙◌, ◌∷◌, ◌≡◌, ◌≢◌, ◌≤◌}
use Rattle.mig_drain.proofs.Dealing.{length-places, rank_more, rank_stays}
use Rattle.mig_drain.proofs.Emptying.{other_below}
use Rattle.std.proofs.Math.Seq.{take-append-add}
use Rattle.std.proofs.lemmas.List.{length-replicate, take-append-le, take-replicate, take_all}

-- in more rounds they take as many or more
more_rounds : (list : List Receiver) (q r : ℕ) → q ≤ r → all_take q list ≤ all_take r list
more_rounds list q r le = sum_by-le-sum_by (takes q) (takes r) list (λ x. more x.free x.limit)
  where
    more : (f l : ℕ) → min f (q * l) ≤ min f (r * l)
    more f l = let h = mul-le-mul_right l le in omega (arith, h)

-- in as many rounds as items they take all items, or fill up
takes_all : (k : ℕ) (list : List Receiver) → All (λ x. 1 ≤ x.limit) list → min (all_free list) k ≤ all_take k list
takes_all k [] some = omega arith
takes_all k (x ∷ xs) some =
    let h = mul-le-mul_left k (All-head (λ (y : Receiver). 1 ≤ y.limit) x xs some) in
    omega (arith, h, takes_all k xs (All-tail (λ (y : Receiver). 1 ≤ y.limit) x xs some), sum_by-cons (λ (y : Receiver). y.free) x xs, sum_by-cons (takes k) x xs)

pub enough_rounds : (k : ℕ) (list : List Receiver) → AreSmall list → k ≤ all_free list → k ≤ all_take k list
enough_rounds k list small room = omega (arith, takes_all k list small.some, room)

-- where they take too few, more rounds are needed
pub too_few : (list : List Receiver) (middle items q : ℕ) → all_take middle list < items → items ≤ all_take q list → middle < q
too_few list middle items q less all = elim (cases_lt middle q) [
  | inl lt ↦ lt
  | inr ge ↦ absurd (omega (arith, less, all, more_rounds list q middle ge))
]

-- Those of the first disks

receiver_by : (a b : Receiver) → a.disk.0 ≡ b.disk.0 → a.free ≡ b.free → a.limit ≡ b.limit → a ≡ b
receiver_by a b d f l i = record { disk = record { 0 = d i }; free = f i; limit = l i }

one_more : (input : InputLists) (v k : ℕ) (b : Bool) → is_other v k ≡ b → map (receiver input) (filter (is_other v) (range_with_len 0 (k + 1))) ≡ map (receiver input) (filter (is_other v) (range_with_len 0 k)) ++ cond b (receiver input k ∷ []) []
one_more input v k true t =
    ap (λ xs. map (receiver input) (filter (is_other v) xs)) (range_more k) ∙ ap (map (receiver input)) (filter-append (is_other v) (range_with_len 0 k) (k ∷ []) ∙ ap (λ c. filter (is_other v) (range_with_len 0 k) ++ cond c (k ∷ []) []) t)
    ∙ map-append (receiver input) (filter (is_other v) (range_with_len 0 k)) (k ∷ [])
one_more input v k false t =
    ap (λ xs. map (receiver input) (filter (is_other v) xs)) (range_more k) ∙ ap (map (receiver input)) (filter-append (is_other v) (range_with_len 0 k) (k ∷ []) ∙ ap (λ c. filter (is_other v) (range_with_len 0 k) ++ cond c (k ∷ []) []) t ∙ append-nil (filter (is_other v) (range_with_len 0 k)))
    ∙ sym (append-nil (map (receiver input) (filter (is_other v) (range_with_len 0 k))))

pub receivers_more : (input : InputLists) (v k : ℕ) (x : Receiver) → k ≢ v → x.disk.0 ≡ k → x.free ≡ free_slots input k → x.limit ≡ incoming_limit input k
    → map (receiver input) (filter (is_other v) (range_with_len 0 k)) ++ x ∷ [] ≡ map (receiver input) (filter (is_other v) (range_with_len 0 (k + 1)))
receivers_more input v k x ne d f l =
    ap (λ (y : Receiver). map (receiver input) (filter (is_other v) (range_with_len 0 k)) ++ y ∷ []) (receiver_by x (receiver input k) d f l) ∙ sym (one_more input v k true (ap not (ne_eqb k v ne)))

pub receivers_same : (input : InputLists) (v k : ℕ) → k ≡ v → map (receiver input) (filter (is_other v) (range_with_len 0 k)) ≡ map (receiver input) (filter (is_other v) (range_with_len 0 (k + 1)))
receivers_same input v k at = sym (append-nil (map (receiver input) (filter (is_other v) (range_with_len 0 k)))) ∙ sym (one_more input v k false (ap not (eq-eqb k v at)))

pub receivers_small : (input : InputLists) (v : ℕ) → IsInput input → AreSmall (receivers_of input v)
receivers_small input v is =
    let us = others input v in
    let n = length input.disks in
    record {
      few = omega (arith, length-map us (receiver input), length-filter (is_other v) (range_with_len 0 n), count_by-le-length (is_other v) (range_with_len 0 n), length-range_with_len 0 n, is.few_disks);
      free = All-map (λ (x : Receiver). x.free ≤ 65536) (receiver input) us (λ k d l. let range = is.disk_ranges (get_or us k d) no_disk (other_below input v k d l) in omega (arith, range.2));
      some = All-map (λ (x : Receiver). 1 ≤ x.limit) (receiver input) us (λ k d l. side_positive Incoming (disk_at input.disks (get_or us k d)).limits (limits_at input is (get_or us k d) (other_below input v k d l)));
      most = All-map (λ (x : Receiver). x.limit ≤ 1024) (receiver input) us (λ k d l. side_small Incoming (disk_at input.disks (get_or us k d)).limits (limits_at input is (get_or us k d) (other_below input v k d l)));
    }

-- what they take is what the other disks can take
pub all_take_is : (input : InputLists) (v r : ℕ) → all_take r (receivers_of input v) ≡ others_can_take input v r
all_take_is input v r = sum_by-map (takes r) (receiver input) (others input v)

pub all_free_is : (input : InputLists) (v : ℕ) → all_free (receivers_of input v) ≡ free_elsewhere input v
all_free_is input v = sum_by-map (λ (x : Receiver). x.free) (receiver input) (others input v)

-- the other disks never take more than their free slots
pub takes_most : (input : InputLists) (v r : ℕ) → others_can_take input v r ≤ free_elsewhere input v
takes_most input v r = sum_by-le-sum_by (can_take input r) (free_slots input) (others input v) (λ u. omega arith)

-- Their places

numbers-replicate : (n u : ℕ) → numbers (replicate n (record { 0 = u })) ≡ replicate n u
numbers-replicate zero u = refl
numbers-replicate (suc n) u = ap (λ (xs : List ℕ). u ∷ xs) (numbers-replicate n u)

pub places_are : (input : InputLists) (v r : ℕ) → numbers (receiver_places r (receivers_of input v)) ≡ places input v r
places_are input v r = over (others input v)
  where
    over : (us : List ℕ) → numbers (receiver_places r (map (receiver input) us)) ≡ flat_map (λ u. replicate (can_take input r u) u) us
    over [] = refl
    over (u ∷ us) =
        map-append (λ (d : DiskId). d.0) (replicate (can_take input r u) (record { 0 = u })) (receiver_places r (map (receiver input) us))
        ∙ ap (λ (xs : List ℕ). xs ++ numbers (receiver_places r (map (receiver input) us))) (numbers-replicate (can_take input r u) u)
        ∙ ap (λ (xs : List ℕ). replicate (can_take input r u) u ++ xs) (over us)

-- so many first places are those of the other disks, and there are so many
pub first_places_are : (input : InputLists) (v r items : ℕ) (list : List Receiver) (disks : List DiskId) → list ≡ receivers_of input v → disks ≡ take items (receiver_places r list) → numbers disks ≡ take items (places input v r)
first_places_are input v r items list disks all first =
    ap (λ (ds : List DiskId). numbers ds) first ∙ sym (take-map (λ (d : DiskId). d.0) items (receiver_places r list)) ∙ ap (λ (xs : List Receiver). take items (numbers (receiver_places r xs))) all ∙ ap (take items) (places_are input v r)

pub places_enough : (input : InputLists) (v r items : ℕ) (list : List Receiver) (disks : List DiskId) → list ≡ receivers_of input v → disks ≡ take items (receiver_places r list) → items ≤ all_take r list → length disks ≡ items
places_enough input v r items list disks all first room =
    sym (length-map disks (λ (d : DiskId). d.0)) ∙ ap (λ (xs : List ℕ). length xs) (first_places_are input v r items list disks all first)
    ∙ length-take-le items (places input v r) (omega (arith, room, ap (all_take r) all, all_take_is input v r, length-places input v r))

-- The first places, with those of one disk more

take-append : {X : Type 0} (n : ℕ) (xs ys : List X) → take n (xs ++ ys) ≡ take n xs ++ take (n - length xs) ys
take-append n xs ys = elim (cases_lt n (length xs)) [
  | inl lt ↦
      let none : 0 ≡ n - length xs = omega arith in
      take-append-le n xs ys (omega arith) ∙ sym (append-nil (take n xs)) ∙ ap (λ k. take n xs ++ take k ys) none
  | inr ge ↦
      let more : n ≡ length xs + (n - length xs) = omega arith in
      let rest = take (n - length xs) ys in
      ap (λ k. take k (xs ++ ys)) more ∙ take-append-add xs ys (n - length xs) ∙ ap (λ l. l ++ rest) (sym (take_all n xs ge))
]

take-times : {X : Type 0} (m t : ℕ) (x : X) → take m (replicate t x) ≡ replicate (min t m) x
take-times {X} m t x = elim (cases_lt t m) [
  | inl lt ↦
      let all : t ≡ min t m = omega arith in
      take_all m (replicate t x) (omega (arith, length-replicate {A = X} t x)) ∙ ap (λ k. replicate k x) all
  | inr ge ↦
      let few : m ≡ min t m = omega arith in
      take-replicate m t x ge ∙ ap (λ k. replicate k x) few
]

pub places_more : (list : List Receiver) (r n i : ℕ) (d : Receiver) (disks : List DiskId) (times : ℕ) → i < length list → disks ≡ take n (receiver_places r (take i list)) → times ≡ min (takes r (get_or list i d)) (n - length disks)
    → disks ++ replicate times (get_or list i d).disk ≡ take n (receiver_places r (take (i + 1) list))
places_more list r n i d disks times l is t =
    let X = receiver_places r (take i list) in
    let x = get_or list i d in
    let all : receiver_places r (take (i + 1) list) ≡ X ++ replicate (takes r x) x.disk =
    ap (receiver_places r) (take_more list i d l) ∙ flat_map-append (λ (y : Receiver). replicate (takes r y) y.disk) (take i list) (x ∷ []) ∙ ap (λ (y : List DiskId). X ++ y) (append-nil (replicate (takes r x) x.disk)) in
    let right : take n (receiver_places r (take (i + 1) list)) ≡ take n X ++ replicate (min (takes r x) (n - length X)) x.disk =
    ap (take n) all ∙ take-append n X (replicate (takes r x) x.disk) ∙ ap (λ (y : List DiskId). take n X ++ y) (take-times (n - length X) (takes r x) x.disk) in
    let len : length disks ≡ min n (length X) = ap (λ (y : List DiskId). length y) is ∙ length-take n X in
    let same : times ≡ min (takes r x) (n - length X) = omega (arith, t, len) in
    ap (λ (y : List DiskId). y ++ replicate times x.disk) is ∙ ap (λ k. take n X ++ replicate k x.disk) same ∙ sym right

-- Items that are counted

pub counted_more : (disks : ℕ) (spots : List Spot) (counts : List ℕ) (i n : ℕ) → i < length spots → (get_or spots i no_spot).disk.0 < disks → n ≡ get_or counts (get_or spots i no_spot).disk.0 0 + 1 → AreDiskCounts disks (take i spots) counts
    → AreDiskCounts disks (take (i + 1) spots) (set counts (get_or spots i no_spot).disk.0 n)
counted_more disks spots counts i n h there is_n a =
    let w = (get_or spots i no_spot).disk.0 in
    record {
      len = length-set counts w n ∙ a.len;
      count = λ v hv. elim (cases_eq v w) [
        | inl e ↦ subst (λ m. get_or (set counts w n) m 0 ≡ count_by (λ (s : Spot). eqb s.disk.0 m) (take (i + 1) spots)) (sym e)
            (get_or-set_same counts w n 0 (omega (arith, there, a.len)) ∙ is_n ∙ omega (arith, a.count w there, count_by_more_yes (λ (s : Spot). eqb s.disk.0 w) spots i no_spot h (eq-eqb w w refl)))
        | inr ne ↦ get_or-set_other counts w v n 0 ne ∙ a.count v hv ∙ sym (count_by_more_no (λ (s : Spot). eqb s.disk.0 v) spots i no_spot h (ne_eqb w v (λ e. ne (sym e))))
      ];
    }

-- so many are at most as many as the spots
pub counted_few : (disks : ℕ) (spots : List Spot) (counts : List ℕ) (i v : ℕ) → i ≤ length spots → v < disks → AreDiskCounts disks (take i spots) counts → get_or counts v 0 ≤ i
counted_few disks spots counts i v le h a = omega (arith, a.count v h, count_by-le-length (λ (s : Spot). eqb s.disk.0 v) (take i spots), length-take-le i spots le)

-- Items that are dealt

pub record DealtBelow (input : InputLists) (v : ℕ) (disks : List ℕ) (n place : ℕ) (next : List DiskId) : Type 0 where
  pub len : length next ≡ n
  pub ranked : place ≡ rank input v n
  pub moved : (item : ℕ) → item < n → source input item ≡ v → target (with_next input next) item ≡ get_or disks (rank input v item) 0
  pub stays : (item : ℕ) → item < n → source input item ≢ v → target (with_next input next) item ≡ source input item

module _ (input : InputLists) (v : ℕ) (disks : List ℕ) (n place : ℕ) (next : List DiskId) (there : n < length input.spots) (b : DealtBelow input v disks n place next) where
  old : (x : DiskId) (item : ℕ) → item < n → target (with_next input (next ++ x ∷ [])) item ≡ target (with_next input next) item
  old x item l = ap (λ (d : DiskId). d.0) (get_or_append_left next (x ∷ []) (record { 0 = 0 }) item (omega (arith, l, b.len)))

  new : (x : DiskId) (item : ℕ) → item ≡ n → target (with_next input (next ++ x ∷ [])) item ≡ x.0
  new x item at = ap (λ (d : DiskId). d.0) (get_or_push next x (record { 0 = 0 }) item (b.len ∙ sym at))

  long : (x : DiskId) → length (next ++ x ∷ []) ≡ n + 1
  long x = omega (arith, length-append next (x ∷ []), b.len)

  pub dealt_moves : (x : DiskId) → source input n ≡ v → x.0 ≡ get_or disks place 0 → DealtBelow input v disks (n + 1) (place + 1) (next ++ x ∷ [])
  dealt_moves x at is = record {
    len = long x;
    ranked = omega (arith, b.ranked, rank_more input v n there at);
    moved = λ item l h. elim (cases_eq item n) [
      | inl e ↦ new x item e ∙ is ∙ ap (λ k. get_or disks k 0) (b.ranked ∙ ap (rank input v) (sym e))
      | inr ne ↦ old x item (omega (arith, l, ne)) ∙ b.moved item (omega (arith, l, ne)) h
    ];
    stays = λ item l h. elim (cases_eq item n) [
      | inl e ↦ absurd (h (ap (source input) e ∙ at))
      | inr ne ↦ old x item (omega (arith, l, ne)) ∙ b.stays item (omega (arith, l, ne)) h
    ];
  }

  pub dealt_stays : (x : DiskId) → source input n ≢ v → x.0 ≡ source input n → DealtBelow input v disks (n + 1) place (next ++ x ∷ [])
  dealt_stays x off is = record {
    len = long x;
    ranked = omega (arith, b.ranked, rank_stays input v n there off);
    moved = λ item l h. elim (cases_eq item n) [
      | inl e ↦ absurd (off (ap (source input) (sym e) ∙ h))
      | inr ne ↦ old x item (omega (arith, l, ne)) ∙ b.moved item (omega (arith, l, ne)) h
    ];
    stays = λ item l h. elim (cases_eq item n) [
      | inl e ↦ new x item e ∙ is ∙ ap (source input) (sym e)
      | inr ne ↦ old x item (omega (arith, l, ne)) ∙ b.stays item (omega (arith, l, ne)) h
    ];
  }

-- From the list to the input

pub fewest_is : (input : InputLists) (v r items limit : ℕ) (list : List Receiver) → list ≡ receivers_of input v → items ≡ present input v → limit ≡ outgoing_limit input v → div_ceil items limit ≤ r → items ≤ all_take r list
    → ((q : ℕ) → div_ceil items limit ≤ q → items ≤ all_take q list → r ≤ q) → AreFewest input v r
fewest_is input v r items limit list b i l low all least =
    let own : div_ceil items limit ≡ own_rounds input v = ap (λ n. div_ceil n limit) i ∙ ap (div_ceil (present input v)) l in
    let same : (q : ℕ) → all_take q list ≡ others_can_take input v q = λ q. ap (all_take q) b ∙ all_take_is input v q in
    record {
      enough = record { leave = omega (arith, low, own); come = omega (arith, i, all, same r) };
      least = λ q e. least q (omega (arith, own, e.leave)) (omega (arith, i, e.come, same q));
    }

pub shown_is : (input : InputLists) (v r items limit : ℕ) (list : List Receiver) (shown : Shown) → list ≡ receivers_of input v → items ≡ present input v → limit ≡ outgoing_limit input v → IsShownBy list items limit r shown → IsShown input v r shown
shown_is input v r items limit list Nothing b i l h = sym i ∙ h
shown_is input v r items limit list (Own load most) b i l h = (h.0, h.1 ∙ i, h.2 ∙ l, h.3 ∙ ap (λ n. div_ceil n limit) i ∙ ap (div_ceil (present input v)) l)
shown_is input v r items limit list (Others room) b i l h =
    let own : div_ceil items limit ≡ own_rounds input v = ap (λ n. div_ceil n limit) i ∙ ap (div_ceil (present input v)) l in
    let before = h.0 in
    let less = h.2 in
    (omega (arith, before, own), h.1 ∙ ap (all_take (r - 1)) b ∙ all_take_is input v (r - 1), omega (arith, less, i))

pub IfOk-both : {T E : Type 0} (r : Result T E) (P Q R : T → Type 0) → ((x : T) → P x → Q x → R x) → IfOk r P → IfOk r Q → IfOk r R
IfOk-both (Ok x) P Q R f p q = f x p q
IfOk-both (Err e) P Q R f p q = tt

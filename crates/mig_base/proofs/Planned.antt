-- A partition of the moves' shifts into rounds that keep the limits can be carried out, and shifts each relocated item once.
use Rattle.mig_base.proofs.Common.{All, All-contains, All-head, All-tail, AreTargets, At, Bool, Contains, Contains-append_left, Contains-append_right, Disk, DiskId, IsArrivedAt, IsDiskInRange}
use Rattle.mig_base.proofs.Common.{InputLists, IsFree, IsInput, IsLegal, IsMoveShift, IsPartition, IsPlan, IsRoomy, IsSomeAnd, IsSpotOf, ItemId, List, MAX_SLOTS, None, Once, Option, PartitionIsPlan}
use Rattle.mig_base.proofs.Common.{PlanFits, Runs, Shift, ShiftFits, Some, Spot, [], ap, arith, cases_eq, cases_lt, cond, count_by, drop, eq-eqb, eqb, false, false≢true, filter, filter_passes}
use Rattle.mig_base.proofs.Common.{get_or, get_or-drop, get_or-le-sum_by, get_or-range_with_len, get_or-take, get_or_default, inl, inr, is_of, is_relocated, length, length-drop}
use Rattle.mig_base.proofs.Common.{length-range_with_len, length-take-le, list_any, move_at, move_shift, moves, nat_tests, ne_eqb, no_shift, no_spot, not, option_map, option_or, position_or_len}
use Rattle.mig_base.proofs.Common.{range_with_len, refl, round_at, shift_at, shift_count, slice_get, slice_get-get_or, source, subst, suc, sum_by, sum_by-cons, sum_by-take-drop, sym, take}
use Rattle.mig_base.proofs.Common.{target, target_at, true, zero, ℕ, ⊎_elim, ◌-◌, ◌<◌, ◌∙◌, ◌∷◌, ◌≡◌, ◌≢◌, ◌≤◌, ◌⊎◌}
use Rattle.mig_base.proofs.Counting.{one, sum_by-none, sum_by-le_each, sum_by-swap, none_pass, at_most_one}
use Rattle.mig_base.proofs.Rounds.{moved_cases, in_some, spot_disk}
use Rattle.mig_base.proofs.Scheduled.{IsShiftedAt, shifted_at, shifted_first, shifted_round, spot_before, spot_later, moves_there}
use Rattle.mig_base.proofs.Room.{lowest_at, target_on_disk}

-- Moves and their items

-- an item of the list is one that a filter keeps
abbrev Found : {X : Type 0} → List X → X → X → Type 0
Found kept d x = (e : ℕ) × (e < length kept) × (get_or kept e d ≡ x)

found_cons : {X : Type 0} (p : X → Bool) (x : X) (xs : List X) (d : X) (b : Bool) → p x ≡ b → ((i : ℕ) → i < length xs → p (get_or xs i d) ≡ true → Found (filter p xs) d (get_or xs i d)) → (i : ℕ) → i < length (x ∷ xs) → p (get_or (x ∷ xs) i d) ≡ true → Found (cond b (x ∷ filter p xs) (filter p xs)) d (get_or (x ∷ xs) i d)
found_cons p x xs d true e rest zero h t = (0, omega arith, refl)
found_cons p x xs d false e rest zero h t = absurd (false≢true (sym e ∙ t))
found_cons p x xs d true e rest (suc i) h t = let r = rest i (omega arith) t in (suc r.0, omega (arith, r.1), r.2)
found_cons p x xs d false e rest (suc i) h t = rest i (omega arith) t

found : {X : Type 0} (p : X → Bool) (xs : List X) (d : X) (i : ℕ) → i < length xs → p (get_or xs i d) ≡ true → Found (filter p xs) d (get_or xs i d)
found p [] d i h t = absurd (omega arith)
found p (x ∷ xs) d i h t = found_cons p x xs d (p x) refl (λ j l u. found p xs d j l u) i h t

pub move_of : (input : InputLists) (i : ℕ) → i < length input.items → is_relocated input i ≡ true → (e : ℕ) × (e < length (moves input)) × (move_at input e ≡ i)
move_of input i h t =
    let n = length input.items in
    let at : get_or (range_with_len 0 n) i 0 ≡ i = omega (arith, get_or-range_with_len 0 n i 0 h) in
    let r = found (is_relocated input) (range_with_len 0 n) 0 i (omega (arith, h, length-range_with_len 0 n)) (ap (is_relocated input) at ∙ t) in
    (r.0, r.1, r.2 ∙ at)

pub move_relocated : (input : InputLists) (e : ℕ) → e < length (moves input) → is_relocated input (move_at input e) ≡ true
move_relocated input e h = filter_passes (is_relocated input) (range_with_len 0 (length input.items)) e 0 h

pub move_there : (input : InputLists) (e : ℕ) → e < length (moves input) → move_at input e < length input.items
move_there input e h = moves_there input e 0 h

-- Where an item may be

-- a shift of one of the first k rounds takes the item to the spot
record TakesTo (plan : List (List Shift)) (k item : ℕ) (spot : Spot) : Type 0 where
  round : ℕ
  before : round < k
  shift : Shift
  has : Contains (round_at plan (suc round)) shift
  item_is : shift.item.0 ≡ item
  to_is : shift.to ≡ spot

later : (plan : List (List Shift)) (k item : ℕ) (spot : Spot) → TakesTo plan k item spot → TakesTo plan (suc k) item spot
later plan k item spot t = record { round = t.round; before = let h = t.before in omega arith; shift = t.shift; has = t.has; item_is = t.item_is; to_is = t.to_is }

-- after some rounds an item has its old spot, or the target of a shift of it
spot_from : (input : InputLists) (plan : List (List Shift)) (k item : ℕ) (spot : Spot) → At input plan k item ≡ Some spot → (slice_get input.spots item ≡ Some spot) ⊎ TakesTo plan k item spot
spot_from input plan zero item spot at = inl at
spot_from input plan (suc k) item spot at = ⊎_elim
    (λ last. inr (record { round = k; before = omega arith; shift = last.0; has = last.1; item_is = last.2; to_is = in_some last.0.to spot (sym last.3 ∙ at) }))
    (λ none. ⊎_elim (λ old. inl old) (λ t. inr (later plan k item spot t)) (spot_from input plan k item spot (sym none.1 ∙ at)))
    (moved_cases (At input plan k) (round_at plan (suc k)) item)

-- Counts of shifts

counted_in : (round : List Shift) (k m : ℕ) → k < length round → (shift_at round k).item.0 ≡ m → 1 ≤ count_by (is_of m) round
counted_in round k m h e = omega (arith, get_or-le-sum_by (λ (s : Shift). one (is_of m s)) round k no_shift h, ap one (eq-eqb (shift_at round k).item.0 m e))

counted_has : (round : List Shift) (s : Shift) (m : ℕ) → Contains round s → s.item.0 ≡ m → 1 ≤ count_by (is_of m) round
counted_has round s m has e = counted_in round has.0 m has.1 (ap (λ (x : Shift). x.item.0) (get_or_default round has.0 no_shift s has.1 ∙ has.2) ∙ e)

-- two places with one item
counted_twice : (round : List Shift) (i j m : ℕ) → i < j → j < length round → (shift_at round i).item.0 ≡ m → (shift_at round j).item.0 ≡ m → 2 ≤ count_by (is_of m) round
counted_twice round i j m h l e f =
    let p : Shift → ℕ = λ s. one (is_of m s) in
    let t = length-take-le j round (omega (arith, l)) in
    let d = length-drop j round in
    let a = counted_in (take j round) i m (omega (arith, h, t)) (ap (λ (s : Shift). s.item.0) (get_or-take j round i no_shift h) ∙ e) in
    let b = counted_in (drop j round) 0 m (omega (arith, l, d)) (ap (λ (s : Shift). s.item.0) (get_or-drop j round 0 no_shift) ∙ ap (λ n. (shift_at round n).item.0) (omega arith) ∙ f) in
    omega (arith, sum_by-take-drop p round j, a, b)

same_disk : (a b : ℕ) → not (eqb a b) ≡ false → a ≡ b
same_disk a b h = grind (arith, nat_tests)

-- as many ones as elements
ones : {X : Type 0} (xs : List X) → sum_by (λ x. 1) xs ≡ length xs
ones [] = refl
ones {X} (x ∷ xs) = let f : X → ℕ = λ x. 1 in omega (arith, sum_by-cons f x xs, ones xs)

-- each shift of an item below n is counted at its item
counted_all : (n : ℕ) (round : List Shift) → All (λ s. s.item.0 < n) round → length round ≤ sum_by (λ i. count_by (is_of i) round) (range_with_len 0 n)
counted_all n round there =
    let items = range_with_len 0 n in
    let each = sum_by-le_each (λ (s : Shift). 1) (λ (s : Shift). sum_by (λ i. one (is_of i s)) items) round (λ k d h. itself (get_or round k d).item.0 (there k d h)) in
    omega (arith, each, ones round, sum_by-swap (λ (s : Shift) i. one (is_of i s)) round items)
  where
    itself : (m : ℕ) → m < n → 1 ≤ sum_by (λ i. one (eqb m i)) (range_with_len 0 n)
    itself m h =
        let f : ℕ → ℕ = λ i. one (eqb m i) in
        let is_m : get_or (range_with_len 0 n) m 0 ≡ m = omega (arith, get_or-range_with_len 0 n m 0 h) in
        omega (arith, get_or-le-sum_by f (range_with_len 0 n) m 0 (omega (arith, h, length-range_with_len 0 n)), ap f is_m, ap one (eq-eqb m m refl))

module _ (input : InputLists) (targets : List Spot) (plan : List (List Shift)) (p : IsPartition input targets plan) where
  -- the move of a shift of the plan
  pub move_in : (r k : ℕ) (d : Shift) → r < length plan → k < length (round_at plan (suc r)) → IsMoveShift input targets (get_or (round_at plan (suc r)) k d)
  move_in r k d h l = p.shifts r [] h k d l

  move_has : (r : ℕ) (s : Shift) → r < length plan → Contains (round_at plan (suc r)) s → IsMoveShift input targets s
  move_has r s h has = All-contains (IsMoveShift input targets) (round_at plan (suc r)) s (p.shifts r [] h) has

  shifted_in : (r k e : ℕ) → r < length plan → k < length (round_at plan (suc r)) → e < length (moves input) → shift_at (round_at plan (suc r)) k ≡ move_shift input targets e → IsShiftedAt plan (move_at input e) r
  shifted_in r k e h l m same =
      shifted_at plan (move_at input e) r h (p.once e m) (counted_in (round_at plan (suc r)) k (move_at input e) l (ap (λ (s : Shift). s.item.0) same))

  apart_items : (r i j : ℕ) (d : Shift) → r < length plan → i < j → j < length (round_at plan (suc r)) → (get_or (round_at plan (suc r)) i d).item ≢ (get_or (round_at plan (suc r)) j d).item
  apart_items r i j d h lt l same =
      let round = round_at plan (suc r) in
      let m = move_in r j d h l in
      let there : shift_at round j ≡ move_shift input targets m.0 = get_or_default round j no_shift d l ∙ m.2 in
      let at = shifted_in r j m.0 h l m.1 there in
      let twice = counted_twice round i j (move_at input m.0) lt l (ap (λ (s : Shift). s.item.0) (get_or_default round i no_shift d (omega (arith, lt, l))) ∙ ap (λ (x : ItemId). x.0) same ∙ ap (λ (s : Shift). s.item.0) m.2) (ap (λ (s : Shift). s.item.0) there) in
      absurd (omega (arith, twice, at.here))

  -- an item that isn't relocated has no shift
  none_in : (i r : ℕ) → is_relocated input i ≡ false → r < length plan → count_by (is_of i) (round_at plan (suc r)) ≡ 0
  none_in i r f h = none_pass (is_of i) (round_at plan (suc r)) (λ k s l.
      let m = p.shifts r [] h k s l in
      ne_eqb (get_or (round_at plan (suc r)) k s).item.0 i (λ e. false≢true (sym f ∙ ap (is_relocated input) (sym e ∙ ap (λ (x : Shift). x.item.0) m.2) ∙ move_relocated input m.0 m.1)))

  stays : (i : ℕ) → is_relocated input i ≡ false → shift_count plan i ≡ 0
  stays i f =
      omega (arith, sum_by-none plan, sum_by-le_each (λ (round : List Shift). count_by (is_of i) round) (λ round. 0) plan (λ r d h. omega (arith, none_in i r f h, ap (λ (x : List Shift). count_by (is_of i) x) (get_or_default plan r d [] h))))

  by_relocated : (i : ℕ) → i < length input.items → (b : Bool) → is_relocated input i ≡ b → shift_count plan i ≡ cond b 1 0
  by_relocated i h true e = let m = move_of input i h e in ap (shift_count plan) (sym m.2) ∙ p.once m.0 m.1
  by_relocated i h false e = stays i e

  partition_once : Once input plan
  partition_once i h = by_relocated i h (is_relocated input i) refl

  module _ (is : IsInput input) (roomy : IsRoomy input) (a : AreTargets input targets) where
    -- different moves have different targets
    targets_apart : (d e : ℕ) → d < e → e < length (moves input) → target_at targets d ≢ target_at targets e
    targets_apart d e h l same =
        let t = length-take-le e targets (omega (arith, l, a.len)) in
        (lowest_at input targets a e l).free (Contains-append_right input.spots (take e targets) (target_at targets e)
        (d, omega (arith, h, t), get_or_default (take e targets) d (target_at targets e) no_spot (omega (arith, h, t)) ∙ get_or-take e targets d no_spot h ∙ same))

    same_move : (d e : ℕ) → d < length (moves input) → e < length (moves input) → target_at targets d ≡ target_at targets e → d ≡ e
    same_move d e h l same = elim (cases_eq d e) [
      | inl eq ↦ eq
      | inr ne ↦ elim (cases_lt d e) [
        | inl lt ↦ absurd (targets_apart d e lt l same)
        | inr ge ↦ absurd (targets_apart e d (omega (arith, ge, ne)) h (sym same))
      ]
    ]

    -- no item has the target of a move that is shifted in this round
    not_there : (r e : ℕ) → r < length plan → e < length (moves input) → IsShiftedAt plan (move_at input e) r → (j : ℕ) → At input plan r j ≡ Some (target_at targets e) → ⊥
    not_there r e h he at j there =
        let spot = target_at targets e in
        ⊎_elim
        (λ old. (lowest_at input targets a e he).free (Contains-append_left input.spots (take e targets) spot (contains_at input.spots j spot old)))
        (λ t. taken t)
        (spot_from input plan r j spot there)
      where
        contains_at : (xs : List Spot) (k : ℕ) (x : Spot) → slice_get xs k ≡ Some x → Contains xs x
        contains_at [] k x e = absurd (let f : ◌≡◌ {A = Option Spot} None (Some x) = e in cc)
        contains_at (y ∷ ys) zero x e = (0, omega arith, in_some y x e)
        contains_at (y ∷ ys) (suc k) x e = let c = contains_at ys k x e in (suc c.0, omega (arith, c.1), c.2)

        taken : TakesTo plan r j (target_at targets e) → ⊥
        taken t =
            let q = t.round in
            let before : q < r = t.before in
            let m = move_has q t.shift (omega (arith, before, h)) t.has in
            let eq = same_move m.0 e m.1 he (sym (ap (λ (y : Shift). y.to) m.2) ∙ t.to_is) in
            let c = counted_has (round_at plan (suc q)) t.shift (move_at input e) t.has (ap (λ (y : Shift). y.item.0) m.2 ∙ ap (move_at input) eq) in
            absurd (omega (arith, c, at.others q (omega (arith, before, h)) (λ same. omega (arith, same, before))))

    -- the spot of a move's item before its round
    leaves_at : (r e : ℕ) → r < length plan → e < length (moves input) → IsShiftedAt plan (move_at input e) r → At input plan r (move_at input e) ≡ Some (move_shift input targets e).from
    leaves_at r e h he at =
        spot_before input plan (move_at input e) r (λ q l. at.others q (omega (arith, l, h)) (λ same. omega (arith, same, l)))
        ∙ slice_get-get_or input.spots (move_at input e) no_spot (omega (arith, move_there input e he, is.spots_len))

    round_legal : (r : ℕ) → r < length plan → IsLegal input (At input plan r) (round_at plan (suc r))
    round_legal r h =
        let round = round_at plan (suc r) in
        let Leaves : Shift → Type 0 = λ s. At input plan r s.item.0 ≡ Some s.from in
        record {
          some = p.filled r [] h;
          leaves = λ k d l.
              let m = move_in r k d h l in
              let at = shifted_in r k m.0 h l m.1 (get_or_default round k no_shift d l ∙ m.2) in
              subst Leaves (sym m.2) (leaves_at r m.0 h m.1 at);
          once = λ i j d lt l. apart_items r i j d h lt l;
          free = λ k d l.
              let m = move_in r k d h l in
              let at = shifted_in r k m.0 h l m.1 (get_or_default round k no_shift d l ∙ m.2) in
              subst (λ (s : Shift). IsFree input (At input plan r) s.to) (sym m.2)
              (target_on_disk input targets a is roomy m.0 m.1, λ taken. not_there r m.0 h m.1 at taken.0 taken.1);
          apart = λ i j d lt l same.
              let m = move_in r i d h (omega (arith, lt, l)) in
              let n = move_in r j d h l in
              let eq = same_move m.0 n.0 m.1 n.1 (sym (ap (λ (s : Shift). s.to) m.2) ∙ same ∙ ap (λ (s : Shift). s.to) n.2) in
              apart_items r i j d h lt l (ap (λ (s : Shift). s.item) m.2 ∙ ap (λ e. (move_shift input targets e).item) eq ∙ sym (ap (λ (s : Shift). s.item) n.2));
          limits = p.limits r [] h;
        }

    -- after all rounds a relocated item is on the disk of its target, and any other where it was
    ends_by : (i : ℕ) → i < length input.items → (b : Bool) → is_relocated input i ≡ b → (spot : Spot) × (At input plan (length plan) i ≡ Some spot) × (spot.disk.0 ≡ target input i)
    ends_by i h true e =
        let m = move_of input i h e in
        let once : shift_count plan i ≡ 1 = ap (shift_count plan) (sym m.2) ∙ p.once m.0 m.1 in
        let first = shifted_first plan i once in
        let k = position_or_len (λ (r : List Shift). list_any (is_of i) r) plan in
        let at = first.1 in
        let by = shifted_round (round_at plan (suc k)) i at.here in
        let s = move_in k by.index by.shift first.0 by.in_round in
        let is_shift : by.shift ≡ move_shift input targets s.0 = sym (by.is by.shift) ∙ s.2 in
        let next : At input plan (suc k) i ≡ Some by.shift.to = ap (λ (o : Option Spot). option_or o (At input plan k i)) by.target in
        let end : At input plan (length plan) i ≡ Some by.shift.to = spot_later input plan i (length plan - suc k) (suc k) (length plan) (omega (arith, first.0)) (λ r l q. at.others r q (λ same. omega (arith, same, l))) ∙ next in
        (by.shift.to, end, ap (λ (x : Shift). x.to.disk.0) is_shift ∙ (lowest_at input targets a s.0 s.1).on_disk ∙ ap (target input) (sym (ap (λ (x : Shift). x.item.0) is_shift) ∙ by.item))
    ends_by i h false e = (
      get_or input.spots i no_spot,
      spot_before input plan i (length plan) (λ r l. none_in i r e l) ∙ slice_get-get_or input.spots i no_spot (omega (arith, h, is.spots_len)),
      same_disk (source input i) (target input i) e,
    )

    arrives : (i : ℕ) → i < length input.items → IsArrivedAt input (At input plan (length plan)) i
    arrives i h =
        let e = ends_by i h (is_relocated input i) refl in
        let next = get_or input.next i (record { 0 = 0 }) in
        let disk : e.0.disk ≡ next = λ j. record { 0 = e.2 j } in
        ap (λ (o : Option Spot). option_map (λ (s : Spot). s.disk) o) e.1 ∙ ap (λ (d : DiskId). Some d) disk ∙ sym (slice_get-get_or input.next i (record { 0 = 0 }) (omega (arith, h, is.next_len)))

    partition_runs : Runs input plan
    partition_runs = record { rounds = λ r h. round_legal r h; arrives = λ i h. arrives i h }

    -- There are no more shifts than items

    counts : (r : ℕ) → r < length plan → length (round_at plan (suc r)) ≤ sum_by (λ i. count_by (is_of i) (round_at plan (suc r))) (range_with_len 0 (length input.items))
    counts r h = counted_all (length input.items) (round_at plan (suc r)) (λ k d l. let m = move_in r k d h l in subst (λ (s : Shift). s.item.0 < length input.items) (sym m.2) (move_there input m.0 m.1))

    few : sum_by (λ (round : List Shift). length round) plan ≤ length input.items
    few =
        let items = range_with_len 0 (length input.items) in
        let n = length-range_with_len 0 (length input.items) in
        let most = sum_by-le_each (λ i. shift_count plan i) (λ i. 1) items (λ k d l.
        once_at_most (get_or items k d) (omega (arith, get_or-range_with_len 0 (length input.items) k d (omega (arith, l, n)), l, n))) in
        let each = sum_by-le_each (λ (round : List Shift). length round) (λ (round : List Shift). sum_by (λ i. count_by (is_of i) round) items) plan (λ r d h.
        subst (λ (round : List Shift). length round ≤ sum_by (λ i. count_by (is_of i) round) items) (get_or_default plan r [] d h) (counts r h)) in
        omega (arith, each, most, sum_by-swap (λ (round : List Shift) i. count_by (is_of i) round) plan items, ones items, n)
      where
        once_at_most : (i : ℕ) → i < length input.items → shift_count plan i ≤ 1
        once_at_most i h = omega (arith, partition_once i h, at_most_one (is_relocated input i))

    fits : PlanFits input plan
    fits = record {
      few_rounds = omega (arith, few, is.few_items, ones plan, sum_by-le_each (λ (round : List Shift). 1) (λ (round : List Shift). length round) plan p.filled);
      few_shifts = λ r d h. omega (arith, few, is.few_items, get_or-le-sum_by (λ (round : List Shift). length round) plan r d h);
      shifts = λ r d h k s l. shift_fits (get_or (get_or plan r d) k s) (p.shifts r d h k s l);
    }
      where
        few_slots : (s : Spot) → IsSpotOf input.disks s → s.slot < MAX_SLOTS
        few_slots s on = slots_at input.disks s.disk.0 is.disk_ranges on
          where
            slots_at : (ds : List Disk) (k : ℕ) → All IsDiskInRange ds → IsSomeAnd (slice_get ds k) (λ (d : Disk). s.slot < d.slots) → s.slot < MAX_SLOTS
            slots_at [] k all has = absurd has
            slots_at (d ∷ ds) zero all has = omega (arith, has, (All-head IsDiskInRange d ds all).2)
            slots_at (d ∷ ds) (suc k) all has = slots_at ds k (All-tail IsDiskInRange d ds all) has

        shift_fits : (s : Shift) → IsMoveShift input targets s → ShiftFits input s
        shift_fits s m =
            let from = is.on_disks (move_at input m.0) no_spot (omega (arith, move_there input m.0 m.1, is.spots_len)) in
            let to = target_on_disk input targets a is roomy m.0 m.1 in
            subst (λ (x : Shift). ShiftFits input x) (sym m.2) (record {
              item = move_there input m.0 m.1;
              from_disk = spot_disk input.disks (move_shift input targets m.0).from from;
              to_disk = spot_disk input.disks (target_at targets m.0) to;
              from_slot = few_slots (move_shift input targets m.0).from from;
              to_slot = few_slots (target_at targets m.0) to;
            })

    partition_plan : IsPlan input plan
    partition_plan = record { runs = partition_runs; once = partition_once; fits = fits }

pub partition_is_plan : PartitionIsPlan
partition_is_plan input targets plan is roomy a p = partition_plan input targets plan p is roomy a

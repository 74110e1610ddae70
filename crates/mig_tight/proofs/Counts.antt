-- A disk that is full of items that belong there has no item that waits for it.
use Rattle.mig_tight.proofs.Common.{AreClearedBelow, AreUnawaited, Bool, Contains, DiskId, Fits, InputLists, IsInput, IsOnNext, IsRoomy, IsSoundState}
use Rattle.mig_tight.proofs.Common.{ItemId, List, PlanState, Spot, WaitsFor, [], ap, arith, cases_eq, count_by, count_by-filter, count_by-filter-le}
use Rattle.mig_tight.proofs.Common.{count_on, eq-eqb, eqb, false, fill_by_all, get_or, get_or-range_with_len, get_or-set_other, get_or_default}
use Rattle.mig_tight.proofs.Common.{incoming, inl, inr, is_relocated, length, length-range_with_len, length-set, nat_tests, ne_eqb, no_spot}
use Rattle.mig_tight.proofs.Common.{none_pass, one, queue_at, range_with_len, refl, set, spot_at, subst, sum_by-map, sum_by-set, sym, target, true}
use Rattle.mig_tight.proofs.Common.{wanted, ℕ, ◌&&◌, ◌+◌, ◌<◌, ◌∙◌, ◌≡◌, ◌≢◌, ◌≤◌}
use Rattle.mig_tight.proofs.ListLaws.{count_by-two, count_by-each}
use Rattle.mig_tight.proofs.Histories.{relocated_from}

abbrev on : ℕ → Spot → Bool
on v s = eqb s.disk.0 v

abbrev for_disk : ℕ → DiskId → Bool
for_disk v d = eqb d.0 v

-- a queue with somebody in it
pub someone_waits : (waiting : List (List ItemId)) (v : ℕ) (x : ItemId) → Contains (queue_at waiting v) x → queue_at waiting v ≡ [] → ⊥
someone_waits waiting v x has none = let l = has.1 in absurd (omega (arith, l, ap (λ (q : List ItemId). length q) none))

-- no spare is on a disk for which somebody waits
pub spares_off : (s : PlanState) (v : ℕ) → AreUnawaited s → (queue_at s.waiting v ≡ [] → ⊥) → count_on v s.spares ≡ 0
spares_off s v unawaited some = none_pass (on v) s.spares (λ k d l. ne_eqb (get_or s.spares k d).disk.0 v (λ e.
    some (ap (queue_at s.waiting) (sym e ∙ ap (λ (x : Spot). x.disk.0) (get_or_default s.spares k d no_spot l)) ∙ unawaited k l)))

-- a spot on a disk
abbrev spot_on : ℕ → Spot
spot_on v = record { disk = record { 0 = v }; slot = 0 }

is_on : (s : Spot) (v : ℕ) → eqb s.disk.0 v ≡ true → s.disk.0 ≡ v
is_on s v h = grind (arith, nat_tests)

on_self : (v : ℕ) → eqb v v ≡ true
on_self v = eq-eqb v v refl

-- as if an item were on a disk where it isn't
one_on : (spots : List Spot) (i v : ℕ) → i < length spots → (spot_at spots i).disk.0 ≢ v → count_on v (set spots i (spot_on v)) ≡ count_on v spots + 1
one_on spots i v there off = grind (arith, sum_by-set, no_spot, ne_eqb, on_self)

-- no more items come to a disk than belong there
incoming_le : (input : InputLists) → IsInput input → (v : ℕ) → incoming input v ≤ wanted input v
incoming_le input is v =
    let goes : ℕ → Bool = λ item. eqb (target input item) v in
    let items = range_with_len 0 (length input.items) in
    let e = fill_by_all (λ item. get_or input.next item (record { 0 = 0 })) input.next (length input.items) (record { 0 = 0 }) is.next_len (λ k h. refl) in
    omega (arith, count_by-filter-le goes (is_relocated input) items, sum_by-map (λ (d : DiskId). one (eqb d.0 v)) (λ item. get_or input.next item (record { 0 = 0 })) items, ap (λ (xs : List DiskId). count_by (λ (d : DiskId). eqb d.0 v) xs) e)

module _ (input : InputLists) (is : IsInput input) (s : PlanState) (st : IsSoundState input s) (unawaited : AreUnawaited s) where
  -- Where all items have been seen to, all are on their next disks
  module _ (fits : Fits input) (cleared : AreClearedBelow input s (length input.items)) where
    belongs : (v : ℕ) → (queue_at s.waiting v ≡ [] → ⊥) → (k : ℕ) → k < length input.items → (spot_at s.spots k).disk.0 ≡ v → target input k ≡ v
    belongs v some k l at = grind (arith, cases_eq, relocated_from)

    pub all_on_next : (item : ℕ) → item < length input.items → IsOnNext input s.spots item
    all_on_next i there = elim (cases_eq (spot_at s.spots i).disk.0 (target input i)) [
      | inl on_next ↦ on_next
      | inr away ↦
          let v = target input i in
          let waits = st.queues.everyone i there away in
          let some : queue_at s.waiting v ≡ [] → ⊥ = someone_waits s.waiting v (record { 0 = i }) waits in
          let l : i < length s.spots = omega (arith, there, st.placed.len) in
          let next_there : v < length input.disks = is.next_disks i (record { 0 = 0 }) (omega (arith, there, is.next_len)) in
          let spots = set s.spots i (spot_on v) in
          let each = count_by-each (on v) (for_disk v) no_spot (record { 0 = 0 }) spots input.next (omega (arith, length-set s.spots i (spot_on v), st.placed.len, is.next_len))
          (λ k m on_v. elim (cases_eq k i) [
            | inl at ↦ eq-eqb (target input k) v (ap (target input) at)
            | inr off ↦ eq-eqb (target input k) v (belongs v some k (omega (arith, m, length-set s.spots i (spot_on v), st.placed.len))
                (ap (λ (x : Spot). x.disk.0) (sym (get_or-set_other s.spots i k (spot_on v) no_spot off)) ∙ is_on (get_or spots k no_spot) v on_v))
          ]) in
          absurd (omega (arith, each, one_on s.spots i v l away, st.enough v next_there, spares_off s v unawaited some, fits v next_there))
    ]

  -- Where an unmoved item's disk is awaited although each disk has room, too many items are there
  module _ (v : ℕ) (there : v < length input.disks) (some : 0 < length (queue_at s.waiting v)) where
    awaited : queue_at s.waiting v ≡ [] → ⊥
    awaited none = absurd (omega (arith, some, ap (λ (q : List ItemId). length q) none))

    waits : WaitsFor input s.spots v (get_or (queue_at s.waiting v) 0 (record { 0 = 0 }))
    waits = st.queues.all_wait v there 0 (record { 0 = 0 }) some

    moved : (b c : Bool) → b ≡ true → c ≡ true → one (b && c) ≡ 1
    moved b c e f = grind (arith, nat_tests)

    counted : (b : Bool) → one b ≤ 1
    counted true = omega arith
    counted false = omega arith

    goes : ℕ → Bool
    goes k = is_relocated input k && eqb (target input k) v

    is_goes : (k : ℕ) → is_relocated input k ≡ true → target input k ≡ v → one (is_relocated input k && eqb (target input k) v) ≡ 1
    is_goes k r t = moved (is_relocated input k) (eqb (target input k) v) r (eq-eqb (target input k) v t)

    relocated_away : (k : ℕ) → k < length input.items → (IsOnNext input s.spots k → ⊥) → is_relocated input k ≡ true
    relocated_away k l away = grind (arith, relocated_from)

    counts : (k : ℕ) → k < length input.items → (spot_at s.spots k).disk.0 ≡ v → 1 ≤ one (eqb (spot_at input.spots k).disk.0 v) + one (is_relocated input k && eqb (target input k) v)
    counts k l at = grind (arith, eq-eqb, awaited, is_goes)

    pub tight : IsRoomy input → ⊥
    tight roomy =
        let w : ℕ = (get_or (queue_at s.waiting v) 0 (record { 0 = 0 })).0 in
        let i : ItemId = get_or (queue_at s.waiting v) 0 (record { 0 = 0 }) in
        let l : i.0 < length s.spots = omega (arith, waits.there, st.placed.len) in
        let spots = set s.spots i.0 (spot_on v) in
        let n = length input.items in
        let items = range_with_len 0 n in
        let len : length (set s.spots i.0 (spot_on v)) ≡ length input.items = length-set s.spots i.0 (spot_on v) ∙ st.placed.len in
        let two = count_by-two (on v) (on v) (λ k. is_relocated input k && eqb (target input k) v) no_spot no_spot 0 spots input.spots items (omega (arith, len, is.spots_len)) (omega (arith, len, length-range_with_len 0 n))
        (λ k m.
        let k_there : k < n = omega (arith, m, len) in
        let at_k : get_or items k 0 ≡ k = get_or-range_with_len 0 n k 0 k_there ∙ omega arith in
        let more : 1 ≤ one (eqb (spot_at input.spots k).disk.0 v) + one (is_relocated input k && eqb (target input k) v) → one (on v (get_or spots k no_spot)) ≤ one (on v (get_or input.spots k no_spot)) + one (is_relocated input (get_or items k 0) && eqb (target input (get_or items k 0)) v) =
        λ h. omega (arith, h, counted (on v (get_or spots k no_spot)), ap (λ j. one (is_relocated input j && eqb (target input j) v)) at_k) in
        elim (cases_eq k i.0) [
          | inl at ↦
              let away : IsOnNext input s.spots k → ⊥ = λ on_next. waits.away (subst (λ j. IsOnNext input s.spots j) at on_next) in
              more (omega (arith, is_goes k (relocated_away k k_there away) (ap (target input) at ∙ waits.goes)))
          | inr off ↦ elim (cases_eq (spot_at s.spots k).disk.0 v) [
            | inl here ↦ more (counts k k_there here)
            | inr ne ↦ omega (arith, ap one (ap (on v) (get_or-set_other s.spots i.0 k (spot_on v) no_spot off) ∙ ne_eqb (spot_at s.spots k).disk.0 v ne))
          ]
        ]) in
        let off : (spot_at s.spots i.0).disk.0 ≢ v = λ e. waits.away (e ∙ sym waits.goes) in
        let in_items : incoming input v ≡ count_by (λ k. is_relocated input k && eqb (target input k) v) items = count_by-filter (λ item. eqb (target input item) v) (is_relocated input) items in
        absurd (omega (arith, two, in_items, one_on s.spots i.0 v l off, st.enough v there, spares_off s v unawaited awaited, roomy v there, incoming_le input is v))

-- The queues of the first n items.
use Rattle.mig_tight.proofs.Common.{All, All-push, AreDifferent, Contains, Contains-append_left, Contains-push, InputLists, IsInput, ItemId, List}
use Rattle.mig_tight.proofs.Common.{WaitsFor, [], ap, arith, cases_eq, cases_lt, false, false≢true, get_or, get_or-set_other, get_or-set_same}
use Rattle.mig_tight.proofs.Common.{get_or_append_left, get_or_push, inl, inr, is_relocated, length, length-set, length_push, queue_at, set, source}
use Rattle.mig_tight.proofs.Common.{subst, sym, target, true, ℕ, ◌++◌, ◌+◌, ◌<◌, ◌∙◌, ◌∷◌, ◌≡◌, ◌≢◌}

abbrev id : ℕ → ItemId
id item = record { 0 = item }

pub record AreQueuesBelow (input : InputLists) (n : ℕ) (waiting : List (List ItemId)) : Type 0 where
  pub len : length waiting ≡ length input.disks
  pub all_wait : (v : ℕ) → v < length input.disks → All (WaitsFor input input.spots v) (queue_at waiting v)
  pub below : (v : ℕ) → v < length input.disks → All (λ i. i.0 < n) (queue_at waiting v)
  pub apart : (v : ℕ) → v < length input.disks → AreDifferent (queue_at waiting v)
  pub everyone : (item : ℕ) → item < n → is_relocated input item ≡ true → Contains (queue_at waiting (target input item)) (record { 0 = item })

-- different elements and one that none of them is
pub apart_push : {X : Type 0} (xs : List X) (x : X) → AreDifferent xs → ((k : ℕ) (d : X) → k < length xs → get_or xs k d ≢ x) → AreDifferent (xs ++ x ∷ [])
apart_push xs x apart fresh i j d l m = grind (arith, cases_lt, get_or_append_left, length_push, get_or_push)

pub queued_stays : (input : InputLists) (n : ℕ) (waiting : List (List ItemId)) → is_relocated input n ≡ false → AreQueuesBelow input n waiting → AreQueuesBelow input (n + 1) waiting
queued_stays input n waiting f q = grind (arith, cases_eq, false≢true)

module _ (input : InputLists) (is : IsInput input) (n : ℕ) (waiting : List (List ItemId)) (there : n < length input.items) (t : is_relocated input n ≡ true) (away : source input n ≢ target input n) (q : AreQueuesBelow input n waiting) (v : ℕ) (goes : v ≡ target input n) (new : List ItemId) (more : new ≡ queue_at waiting v ++ id n ∷ []) where
  pub disk_there : v < length input.disks
  disk_there = omega (arith, goes, is.next_disks n (record { 0 = 0 }) (omega (arith, there, is.next_len)))

  within : v < length waiting
  within = omega (arith, disk_there, q.len)

  here : queue_at (set waiting v new) v ≡ queue_at waiting v ++ id n ∷ []
  here = get_or-set_same waiting v new [] within ∙ more

  elsewhere : (u : ℕ) → u ≢ v → queue_at (set waiting v new) u ≡ queue_at waiting u
  elsewhere u ne = get_or-set_other waiting v u new [] ne

  -- what holds of each queue and of the longer one holds of each queue after
  each : (P : ℕ → List ItemId → Type 0) → ((u : ℕ) → u < length input.disks → P u (queue_at waiting u)) → P v (queue_at waiting v ++ id n ∷ []) → (u : ℕ) → u < length input.disks → P u (queue_at (set waiting v new) u)
  each P old longer u h = grind (arith, cases_eq, here, elsewhere)

  pub queued_goes : AreQueuesBelow input (n + 1) (set waiting v new)
  queued_goes = record {
    len = length-set waiting v new ∙ q.len;
    all_wait = each (λ u l. All (WaitsFor input input.spots u) l) q.all_wait (All-push (WaitsFor input input.spots v) (queue_at waiting v) (id n) (q.all_wait v disk_there) (record { there = there; goes = sym goes; away = λ h. away h }));
    below = each (λ u l. All (λ (i : ItemId). i.0 < n + 1) l) (λ u h k d l. omega (arith, q.below u h k d l)) (All-push (λ (i : ItemId). i.0 < n + 1) (queue_at waiting v) (id n) (λ k d l. omega (arith, q.below v disk_there k d l)) (omega arith));
    apart = each (λ u l. AreDifferent l) q.apart (apart_push (queue_at waiting v) (id n) (q.apart v disk_there) (λ k d l e. absurd (omega (arith, q.below v disk_there k d l, ap (λ (i : ItemId). i.0) e))));
    everyone = λ item h r. elim (cases_eq item n) [
      | inl at ↦
          subst (λ i. Contains (queue_at (set waiting v new) (target input i)) (id i)) (sym at)
          (subst (λ w. Contains (queue_at (set waiting v new) w) (id n)) goes (subst (λ (l : List ItemId). Contains l (id n)) (sym here) (Contains-push (queue_at waiting v) (id n))))
      | inr off ↦
          let old = q.everyone item (omega (arith, h, off)) r in
          elim (cases_eq (target input item) v) [
            | inl same ↦ subst (λ w. Contains (queue_at (set waiting v new) w) (id item)) (sym same) (subst (λ (l : List ItemId). Contains l (id item)) (sym here) (Contains-append_left (queue_at waiting v) (id n ∷ []) (id item) (subst (λ w. Contains (queue_at waiting w) (id item)) same old)))
            | inr ne ↦ subst (λ (l : List ItemId). Contains l (id item)) (sym (elsewhere (target input item) ne)) old
          ]
    ];
  }

-- The items that wait, after one of them was shifted.
use Rattle.mig_tight.proofs.Common.{All, AreDifferent, AreQueues, Contains, Contains-push_cases, InputLists, IsOnNext, ItemId, List, Spot, WaitsFor, [], ap, arith, cases_eq, get_or, get_or-set_other}
use Rattle.mig_tight.proofs.Common.{get_or-set_same, get_or_append_left, get_or_push, inl, inr, length, length-set, length_push, no_spot, queue_at, refl, set, spot_at, subst, sym, target, ℕ}
use Rattle.mig_tight.proofs.Common.{◌++◌, ◌<◌, ◌∙◌, ◌∷◌, ◌≡◌, ◌≢◌}

abbrev id : ℕ → ItemId
id item = record { 0 = item }

pub same_item : (a b : ItemId) → a.0 ≡ b.0 → a ≡ b
same_item a b e i = record { 0 = e i }

-- the other items stay where they are
pub spot_other : (spots : List Spot) (item : ℕ) (to : Spot) (other : ℕ) → other ≢ item → spot_at (set spots item to) other ≡ spot_at spots other
spot_other spots item to other ne = get_or-set_other spots item other to no_spot ne

on_next_other : (input : InputLists) (spots : List Spot) (item : ℕ) (to : Spot) (other : ℕ) → other ≢ item → IsOnNext input (set spots item to) other → IsOnNext input spots other
on_next_other input spots item to other ne h = ap (λ (s : Spot). s.disk.0) (sym (spot_other spots item to other ne)) ∙ h

waits_other : (input : InputLists) (spots : List Spot) (item : ℕ) (to : Spot) (v : ℕ) (other : ItemId) → other.0 ≢ item → WaitsFor input spots v other → WaitsFor input (set spots item to) v other
waits_other input spots item to v other ne w = record { there = w.there; goes = w.goes; away = λ h. w.away (on_next_other input spots item to other.0 ne h) }

-- an item that waits went to its next disk
module _ (input : InputLists) (spots : List Spot) (waiting : List (List ItemId)) (v : ℕ) (x : ItemId) (rest : List ItemId) (to : Spot) (q : AreQueues input spots waiting) (there : v < length input.disks) (len : length spots ≡ length input.items) (was : queue_at waiting v ≡ rest ++ x ∷ []) (on : to.disk.0 ≡ v) where
  last_there : length rest < length (rest ++ x ∷ [])
  last_there = omega (arith, length_push rest x)

  pub waits_last : WaitsFor input spots v x
  waits_last =
      let all : All (WaitsFor input spots v) (rest ++ x ∷ []) = subst (λ (l : List ItemId). All (WaitsFor input spots v) l) was (q.all_wait v there) in
      subst (λ (y : ItemId). WaitsFor input spots v y) (get_or_push rest x x (length rest) refl) (all (length rest) x last_there)

  diff : AreDifferent (rest ++ x ∷ [])
  diff = subst (λ (l : List ItemId). AreDifferent l) was (q.apart v there)

  -- the others of the queue are others
  other_in : (k : ℕ) (d : ItemId) → k < length rest → (get_or rest k d).0 ≢ x.0
  other_in k d l e = diff k (length rest) d l last_there
      (get_or_append_left rest (x ∷ []) d k l ∙ same_item (get_or rest k d) x e ∙ sym (get_or_push rest x d (length rest) refl))

  within : v < length waiting
  within = omega (arith, there, q.len)

  here : queue_at (set waiting v rest) v ≡ rest
  here = get_or-set_same waiting v rest [] within

  elsewhere : (u : ℕ) → u ≢ v → queue_at (set waiting v rest) u ≡ queue_at waiting u
  elsewhere u ne = get_or-set_other waiting v u rest [] ne

  rest_waits : All (WaitsFor input (set spots x.0 to) v) rest
  rest_waits k d l = grind (arith, waits_other, other_in, get_or_append_left, last_there)

  far_waits : (u : ℕ) → u < length input.disks → u ≢ v → All (WaitsFor input (set spots x.0 to) u) (queue_at waiting u)
  far_waits u h ne k d l =
      let w = q.all_wait u h k d l in
      waits_other input spots x.0 to u (get_or (queue_at waiting u) k d) (λ e. ne (sym w.goes ∙ ap (target input) e ∙ waits_last.goes)) w

  rest_apart : AreDifferent rest
  rest_apart i j d l m e = diff i j d l (omega (arith, m, last_there)) (get_or_append_left rest (x ∷ []) d i (omega (arith, l, m)) ∙ e ∙ sym (get_or_append_left rest (x ∷ []) d j m))

  on_next_now : IsOnNext input (set spots x.0 to) x.0
  on_next_now = ap (λ (s : Spot). s.disk.0) (get_or-set_same spots x.0 to no_spot (omega (arith, waits_last.there, len))) ∙ on ∙ sym waits_last.goes

  not_it : (item : ℕ) → (IsOnNext input (set spots x.0 to) item → ⊥) → item ≢ x.0
  not_it item away e = away (subst (λ (i : ℕ). IsOnNext input (set spots x.0 to) i) (sym e) on_next_now)

  still : (item : ℕ) → item < length input.items → (IsOnNext input (set spots x.0 to) item → ⊥) → Contains (queue_at (set waiting v rest) (target input item)) (id item)
  still item h away =
      let ne = not_it item away in
      let before = q.everyone item h (λ on_next. away (ap (λ (s : Spot). s.disk.0) (spot_other spots x.0 to item ne) ∙ on_next)) in
      elim (cases_eq (target input item) v) [
        | inl at ↦
            let in_v : Contains (rest ++ x ∷ []) (id item) = subst (λ (l : List ItemId). Contains l (id item)) (ap (queue_at waiting) at ∙ was) before in
            subst (λ (l : List ItemId). Contains l (id item)) (sym (ap (queue_at (set waiting v rest)) at ∙ here)) (elim (Contains-push_cases rest x (id item) in_v) [
              | inl c ↦ c
              | inr e ↦ absurd (ne (sym (ap (λ (y : ItemId). y.0) e)))
            ])
        | inr off ↦ subst (λ (l : List ItemId). Contains l (id item)) (sym (elsewhere (target input item) off)) before
      ]

  pub AreQueues-filled : AreQueues input (set spots x.0 to) (set waiting v rest)
  AreQueues-filled = grind (arith, length-set, cases_eq, here, rest_waits, elsewhere, far_waits, rest_apart, still)

  -- where nobody waited, nobody waits
  pub shorter : (u : ℕ) → queue_at waiting u ≡ [] → queue_at (set waiting v rest) u ≡ []
  shorter u none = grind (arith, cases_eq, last_there, elsewhere)

-- an item that waits went to a disk that isn't its next disk
module _ (input : InputLists) (spots : List Spot) (waiting : List (List ItemId)) (x : ℕ) (to : Spot) (q : AreQueues input spots waiting) (there : x < length spots) (far : to.disk.0 ≢ target input x) where
  away_now : IsOnNext input (set spots x to) x → ⊥
  away_now h = far (ap (λ (s : Spot). s.disk.0) (sym (get_or-set_same spots x to no_spot there)) ∙ h)

  pub AreQueues-parked : (IsOnNext input spots x → ⊥) → AreQueues input (set spots x to) waiting
  AreQueues-parked away = grind (arith, cases_eq, away_now, waits_other, spot_other)

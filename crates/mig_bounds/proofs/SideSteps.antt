-- Steps of the search of sides.
use Rattle.mig_bounds.proofs.Common.{BestSide, Incoming, IsBestSide, IsGraph, List, Outgoing, Side, Transfers, Transfer, [], ap, arith, cases_lt}
use Rattle.mig_bounds.proofs.Common.{disk_at, div_ceil, eq-eqb, get_or, get_or-le-sum_by, inl, inr, length, one, passes, refl, side_limit, side_load}
use Rattle.mig_bounds.proofs.Common.{side_number, side_value, subst, suc, sym, true, value, zero, ℕ, ◌*◌, ◌+◌, ◌<◌, ◌∙◌, ◌∷◌, ◌≡◌, ◌≤◌, ◌⊎◌}

-- a side without a load needs no rounds, and one that needs rounds has a load
idle_side : (graph : Transfers) (v : ℕ) (side : Side) → side_load side v graph.transfers ≡ 0 → side_value graph side v ≡ 0
idle_side graph v side none = ap (λ n. div_ceil n (side_limit side (disk_at graph.disks v).limits)) none ∙ nothing (side_limit side (disk_at graph.disks v).limits)
  where
    nothing : (m : ℕ) → div_ceil 0 m ≡ 0
    nothing zero = refl
    nothing (suc m) = omega arith

pub loaded_side : (graph : Transfers) (v : ℕ) (side : Side) → 0 < side_value graph side v → 0 < side_load side v graph.transfers
loaded_side graph v side some = elim (cases_lt 0 (side_load side v graph.transfers)) [
  | inl l ↦ l
  | inr ge ↦ absurd (omega (arith, some, idle_side graph v side (omega (arith, ge))))
]

-- the sides below the next number are those below this one, and this one
same_side : (v w : ℕ) (side next : Side) → side_number v side < side_number w next + 1 → (side_number v side < side_number w next) ⊎ ((v ≡ w) × (side ≡ next))
same_side v w Outgoing Outgoing below = elim (cases_lt v w) [ inl l ↦ inl (omega (arith, l)) | inr ge ↦ inr (omega (arith, ge, below), refl) ]
same_side v w Outgoing Incoming below = inl (omega (arith, below))
same_side v w Incoming Outgoing below = inl (omega (arith, below))
same_side v w Incoming Incoming below = elim (cases_lt v w) [ inl l ↦ inl (omega (arith, l)) | inr ge ↦ inr (omega (arith, ge, below), refl) ]

-- what holds of the sides below a number and of this one holds of those below the next
with_next : (P : ℕ → Side → Type 0) (w : ℕ) (next : Side) → ((v : ℕ) (side : Side) → side_number v side < side_number w next → P v side) → P w next → (v : ℕ) (side : Side) → side_number v side < side_number w next + 1 → P v side
with_next P w next before here v side below = elim (same_side v w side next below) [
  | inl l ↦ before v side l
  | inr same ↦ subst (λ (s : Side). P v s) (sym same.1) (subst (λ (u : ℕ). P u next) (sym same.0) here)
]

-- this side is no better
pub side_keeps : (graph : Transfers) (best : BestSide) (w : ℕ) (next : Side) → side_value graph next w ≤ best.value → IsBestSide graph best (side_number w next) → IsBestSide graph best (side_number w next + 1)
side_keeps graph best w next no_better b = record {
  there = b.there;
  load_is = b.load_is;
  loaded = b.loaded;
  value_is = b.value_is;
  greatest = with_next (λ v side. side_value graph side v ≤ best.value) w next b.greatest no_better;
  first = b.first;
}

-- this side is better than all before it
pub side_takes : (graph : Transfers) (new : BestSide) → new.disk.0 < length graph.disks → new.load ≡ side_load new.side new.disk.0 graph.transfers → new.value ≡ side_value graph new.side new.disk.0 → 0 < new.load
    → ((v : ℕ) (side : Side) → side_number v side < side_number new.disk.0 new.side → side_value graph side v < new.value) → IsBestSide graph new (side_number new.disk.0 new.side + 1)
side_takes graph new there load_is value_is loaded before = record {
  there = there;
  load_is = load_is;
  loaded = loaded;
  value_is = value_is;
  greatest = with_next (λ v side. side_value graph side v ≤ new.value) new.disk.0 new.side (λ v side below. let l = before v side below in omega (arith, l)) (omega (arith, value_is));
  first = before;
}

-- no side before it has a load
pub side_starts : (graph : Transfers) (w value : ℕ) (next : Side) → 0 < value → ((v : ℕ) (side : Side) → side_number v side < side_number w next → side_load side v graph.transfers ≡ 0) → (v : ℕ) (side : Side) → side_number v side < side_number w next → side_value graph side v < value
side_starts graph w value next some none v side below = omega (arith, some, idle_side graph v side (none v side below))

pub none_more : (graph : Transfers) (w : ℕ) (next : Side) → side_load next w graph.transfers ≡ 0 → ((v : ℕ) (side : Side) → side_number v side < side_number w next → side_load side v graph.transfers ≡ 0) → (v : ℕ) (side : Side) → side_number v side < side_number w next + 1 → side_load side v graph.transfers ≡ 0
none_more graph w next idle none = with_next (λ v side. side_load side v graph.transfers ≡ 0) w next none idle

-- ---- the end of the search

-- the number of a side of a disk that is there is below the end
number_there : (v n : ℕ) (side : Side) → v < n → side_number v side < 2 * n
number_there v n Outgoing h = omega (arith, h)
number_there v n Incoming h = omega (arith, h)

-- where no side has a load, there is no move
pub no_side_transfers : (graph : Transfers) → IsGraph graph → ((v : ℕ) (side : Side) → side_number v side < 2 * length graph.disks → side_load side v graph.transfers ≡ 0) → graph.transfers ≡ []
no_side_transfers graph valid none = by_list graph.transfers refl
  where
    by_list : (ts : List Transfer) → graph.transfers ≡ ts → graph.transfers ≡ []
    by_list [] e = e
    by_list (t ∷ ts) e =
        let some : 0 < length graph.transfers = omega (arith, ap (λ (x : List Transfer). length x) e) in
        let first = get_or graph.transfers 0 t in
        let v = first.leaves in
        let met : passes Outgoing v first ≡ true = eq-eqb v v refl in
        absurd (omega (arith, none v Outgoing (number_there v (length graph.disks) Outgoing (valid.leaves_there 0 t some)), get_or-le-sum_by (λ (s : Transfer). one (passes Outgoing v s)) graph.transfers 0 t some, ap one met))

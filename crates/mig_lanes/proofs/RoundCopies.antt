-- The copies of a job's round.
use Rattle.mig_lanes.proofs.Common.{All, All-map, AllPairs, Any, AreFlights, At, Cell, Contains, Contains-get_or, Flight, InputLists, IsLegal, IsTargetOf, IsTargetSlot, IsTask, IsTrue, List, Shift}
use Rattle.mig_lanes.proofs.Common.{Some, Task, [], ap, arith, contains_any, copies_of, flight_of, flights_of, get_or, get_or_from_slice_get, is_slot, leaves, length, on_disks, refl, round_at}
use Rattle.mig_lanes.proofs.Common.{slice_get, slice_get_within, slot_apart, slot_of, suc, sym, target_free, zero, ℕ, ◌<◌, ◌∙◌, ◌∷◌, ◌≡◌, ◌≢◌, ◌≤◌}

module _ (input : InputLists) where
  -- a target of the copies is one of the shifts
  to_of : (shifts : List Shift) (cell : Cell) → IsTargetOf (flights_of input shifts) cell → Any (λ s. slot_of input s.to ≡ cell) shifts
  to_of [] cell any = let lt = any.2 in absurd (omega arith)
  to_of (s ∷ ss) cell (zero, x, lt, is, at) = (0, s, omega arith, refl, ap (λ (c : Flight). c.to) is ∙ at)
  to_of (s ∷ ss) cell (suc k, x, lt, is, at) = let r = to_of ss cell (k, x, omega arith, is, at) in (suc r.0, r.1, let low = r.2 in omega arith, r.3, r.4)

  -- what holds of the copies holds of the shifts
  pub of_shifts : (P : Flight → Type 0) (shifts : List Shift) → All P (flights_of input shifts) → All (λ s. P (flight_of input s)) shifts
  of_shifts P [] all k d lt = absurd (omega arith)
  of_shifts P (s ∷ ss) all zero d lt = all 0 (flight_of input s) (omega arith)
  of_shifts P (s ∷ ss) all (suc k) d lt = of_shifts P ss (λ j e low. all (suc j) e (omega arith)) k d (omega arith)

  pairs : (shifts : List Shift) → AllPairs (λ s t. slot_of input s.to ≢ slot_of input t.to) shifts → AllPairs (λ a b. a.to ≢ b.to) (flights_of input shifts)
  pairs [] apart i j d less lt = absurd (omega arith)
  pairs (s ∷ ss) apart zero zero d less lt = absurd (omega arith)
  pairs (s ∷ ss) apart (suc i) zero d less lt = absurd (omega arith)
  pairs (s ∷ ss) apart zero (suc j) d less lt =
      All-map (λ (b : Flight). slot_of input s.to ≢ b.to) (flight_of input) ss (λ k e low. apart 0 (suc k) e (omega arith) (omega arith)) j d (omega arith)
  pairs (s ∷ ss) apart (suc i) (suc j) d less lt = pairs ss (λ a b e low high. apart (suc a) (suc b) e (omega arith) (omega arith)) i j d (omega arith) (omega arith)

module _ (task : Task) (is : IsTask task) where
  -- a round's copies may be in flight together
  pub are_flights : (round : ℕ) → 1 ≤ round → round ≤ length task.plan → AreFlights (copies_of task round)
  are_flights zero low high = absurd (omega arith)
  are_flights (suc k) low high = record {
    slots = All-map (λ (c : Flight). IsTrue (is_slot c.from) × IsTrue (is_slot c.to)) (flight_of task.input) (round_at task.plan (suc k)) (λ j d lt. (refl, refl));
    apart = pairs task.input (round_at task.plan (suc k)) (λ i j d before lt same.
        legal.apart i j d before lt (slot_apart task.input is.valid _ _ (on i d (omega arith)).1 (on j d lt).1 same));
    still = All-map (λ (c : Flight). ¬ IsTargetOf (copies_of task (suc k)) c.from) (flight_of task.input) (round_at task.plan (suc k)) (λ j d lt any.
        source (get_or (round_at task.plan (suc k)) j d) (Contains-get_or (round_at task.plan (suc k)) j d lt) (to_of task.input (round_at task.plan (suc k)) _ any));
  }
    where
      legal : IsLegal task.input (At task.input task.plan k) (round_at task.plan (suc k))
      legal = is.runs.rounds k (omega arith)

      on : (j : ℕ) (d : Shift) → j < length (round_at task.plan (suc k)) → ((get_or (round_at task.plan (suc k)) j d).from.disk.0 < length task.input.disks) × ((get_or (round_at task.plan (suc k)) j d).to.disk.0 < length task.input.disks)
      on j d lt = on_disks task is (suc k) low high (get_or (round_at task.plan (suc k)) j d) (Contains-get_or (round_at task.plan (suc k)) j d lt)

      source : (s : Shift) → Contains (round_at task.plan (suc k)) s → Any (λ t. slot_of task.input t.to ≡ slot_of task.input s.from) (round_at task.plan (suc k)) → ⊥
      source s has to =
          let has_t = contains_any (λ (t : Shift). slot_of task.input t.to ≡ slot_of task.input s.from) (round_at task.plan (suc k)) to in
          let same = slot_apart task.input is.valid _ _ (on_disks task is (suc k) low high to.1 has_t).1 (on_disks task is (suc k) low high s has).0 to.4 in
          target_free task.input (At task.input task.plan k) (round_at task.plan (suc k)) legal to.1 has_t s.item.0
          (leaves task.input (At task.input task.plan k) (round_at task.plan (suc k)) legal s has ∙ ap Some (sym same))

-- their targets are those of the round
pub target_slot : (task : Task) (round : ℕ) (cell : Cell) → IsTargetOf (copies_of task round) cell → IsTargetSlot task.input task.plan round cell
target_slot task round cell any = let at = to_of task.input (round_at task.plan round) cell any in (at.1.to, (at.0, at.1, at.2, at.3, refl), at.4)

-- the copy at a place
module _ (task : Task) (round place : ℕ) (f : Flight) (at : slice_get (copies_of task round) place ≡ Some f) where
  pub copy_within : place < length (copies_of task round)
  copy_within = slice_get_within (copies_of task round) place f at

  pub copy_here : f ≡ get_or (copies_of task round) place f
  copy_here = sym (get_or_from_slice_get (copies_of task round) place f f at)

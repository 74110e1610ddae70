-- The shift at a place of a round, and its copy.
use Rattle.mig_live.proofs.Common.{Flight, InputLists, List, Shift, Some, ap, arith, flight_of, flights_of, round_at, slice_get, slot_of, some_map, subst, suc, ℕ, ◌+◌, ◌≡◌}

-- the shift whose copy stands at the place
pub shift_of : (input : InputLists) (shifts : List Shift) (place : ℕ) (f : Flight) → slice_get (flights_of input shifts) place ≡ Some f
    → (s : Shift) × (slice_get shifts place ≡ Some s) × (f.from ≡ slot_of input s.from) × (f.to ≡ slot_of input s.to)
shift_of input shifts place f at =
    let x = some_map (flight_of input) shifts place f at in
    (x.0, x.1, ap (λ (h : Flight). h.from) x.2, ap (λ (h : Flight). h.to) x.2)

-- the same in the round after the first k
pub at_next : (input : InputLists) (plan : List (List Shift)) (k place : ℕ) (f : Flight)
    → slice_get (flights_of input (round_at plan (k + 1))) place ≡ Some f → slice_get (flights_of input (round_at plan (suc k))) place ≡ Some f
at_next input plan k place f =
    subst (λ (n : ℕ). slice_get (flights_of input (round_at plan n)) place ≡ Some f) (let e : k + 1 ≡ suc k = omega arith in e)

-- The rounds of a job.
use Rattle.mig_jobs.proofs.Common.{At, Cell, Contains, Contains-get_or, InputLists, IsTask, List, MAX_FILE_BYTES, Shift, Some, Task, [], ap, arith, at_map, flight_of, flights_of, from_disk, get_or}
use Rattle.mig_jobs.proofs.Common.{get_or_default, layout_at, length, length-append, no_spot, round_at, shifts_of, slice_get, slice_get-get_or, slot_of, subst, suc, sym, take, to_disk, zero, ℕ}
use Rattle.mig_jobs.proofs.Common.{◌+◌, ◌-◌, ◌<◌, ◌∙◌, ◌∷◌, ◌≡◌, ◌≤◌}

-- a round's shifts come after those of the rounds before it
pub shifts_counted : (plan : List (List Shift)) (i : ℕ) (d : List Shift) → i < length plan → length (shifts_of (take i plan)) + length (get_or plan i d) ≤ length (shifts_of plan)
shifts_counted [] i d lt = absurd (omega arith)
shifts_counted (r ∷ rs) zero d lt = omega (arith, length-append r (shifts_of rs))
shifts_counted (r ∷ rs) (suc i) d lt = omega (arith, length-append r (shifts_of rs), length-append r (shifts_of (take i rs)), shifts_counted rs i d (omega arith))

-- a round that is there
pub round_is : (plan : List (List Shift)) (round : ℕ) (d : List Shift) → 1 ≤ round → round ≤ length plan → round_at plan round ≡ get_or plan (round - 1) d
round_is plan zero d low high = absurd (omega arith)
round_is plan (suc k) d low high = get_or_default plan k [] d (omega arith) ∙ ap (λ (j : ℕ). get_or plan j d) (let e : k ≡ suc k - 1 = omega arith in e)

module _ (task : Task) (is : IsTask task) (round : ℕ) (low : 1 ≤ round) (high : round ≤ length task.plan) where
  pub round_short : length (round_at task.plan round) ≤ MAX_FILE_BYTES
  round_short =
      let e = round_is task.plan round [] low high in
      let n = ap (λ (l : List Shift). length l) e in
      omega (arith, shifts_counted task.plan (round - 1) [] (omega arith), is.few_shifts, n)

  -- the ends of a round's shifts are on disks
  pub on_disks : (s : Shift) → Contains (round_at task.plan round) s → (s.from.disk.0 < length task.input.disks) × (s.to.disk.0 < length task.input.disks)
  on_disks s has = at round low high s has
    where
      at : (r : ℕ) → 1 ≤ r → r ≤ length task.plan → (t : Shift) → Contains (round_at task.plan r) t → (t.from.disk.0 < length task.input.disks) × (t.to.disk.0 < length task.input.disks)
      at zero one le t there = absurd (omega arith)
      at (suc k) one le t there =
          let legal = is.runs.rounds k (omega arith) in (
            from_disk task.input (At task.input task.plan k) (round_at task.plan (suc k)) legal (layout_at task.input is.valid task.plan is.runs k (omega arith)) t there,
            to_disk task.input (At task.input task.plan k) (round_at task.plan (suc k)) legal t there,
          )

-- the round that the code finds
pub round_here : (plan : List (List Shift)) (round : ℕ) → 1 ≤ round → round ≤ length plan → (rounds : List (List Shift)) (shifts : List Shift) → rounds ≡ plan → shifts ≡ get_or rounds (round - 1) shifts → shifts ≡ round_at plan round
round_here plan round low high rounds shifts same at = at ∙ ap (λ (l : List (List Shift)). get_or l (round - 1) shifts) same ∙ sym (round_is plan round shifts low high)

-- what a shift that isn't there would be
abbrev pub no_shift : Shift
no_shift = record { item = record { 0 = 0 }; from = no_spot; to = no_spot }

-- the shift that the code finds
module _ (task : Task) (is : IsTask task) (round place : ℕ) (low : 1 ≤ round) (high : round ≤ length task.plan) (within : place < length (round_at task.plan round))
    (shifts : List Shift) (same : shifts ≡ round_at task.plan round) where
  pub shift_on_disks : (input : InputLists) → input ≡ task.input → ((get_or shifts place no_shift).from.disk.0 < length input.disks) × ((get_or shifts place no_shift).to.disk.0 < length input.disks)
  shift_on_disks input is_input = subst (λ (i : InputLists). ((get_or shifts place no_shift).from.disk.0 < length i.disks) × ((get_or shifts place no_shift).to.disk.0 < length i.disks)) (sym is_input)
      (subst (λ (l : List Shift). ((get_or l place no_shift).from.disk.0 < length task.input.disks) × ((get_or l place no_shift).to.disk.0 < length task.input.disks)) (sym same)
      (on_disks task is round low high (get_or (round_at task.plan round) place no_shift) (Contains-get_or (round_at task.plan round) place no_shift within)))

  pub copy_is : (input : InputLists) → input ≡ task.input → (from to : Cell) → from ≡ slot_of input (get_or shifts place no_shift).from → to ≡ slot_of input (get_or shifts place no_shift).to
      → slice_get (flights_of task.input (round_at task.plan round)) place ≡ Some (record { from = from; to = to })
  copy_is input is_input from to is_from is_to =
      at_map (flight_of task.input) (round_at task.plan round) place (get_or (round_at task.plan round) place no_shift) (slice_get-get_or (round_at task.plan round) place no_shift within)
      ∙ ap (λ (l : List Shift). Some (flight_of task.input (get_or l place no_shift))) (sym same)
      ∙ ap (λ (i : InputLists). Some (flight_of i (get_or shifts place no_shift))) (sym is_input)
      ∙ (λ i. Some (record { from = sym is_from i; to = sym is_to i }))

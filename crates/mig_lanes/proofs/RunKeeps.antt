-- All through the events of rounds the copies in flight stay within the limits of disks, between slots, to different ones, and none reads another's target.
use Rattle.mig_lanes.proofs.Common.{All, AreFlights, AreWithinLimits, BeginsRun, Contains-get_or, Disk, Event, Flight, IsPart, IsPartOf, IsTask, IsTrue, List, State, Task, ap, arith}
use Rattle.mig_lanes.proofs.Common.{copies_of, flights, flights_filter, flights_none, get_or, get_or-map-range_with_len, get_or-take, is_slot, later_rounds, length, length-map-range_with_len}
use Rattle.mig_lanes.proofs.Common.{length-take, on_disks, refl, round_at, subst, suc, sym, take, zero, ℕ, ◌+◌, ◌-◌, ◌<◌, ◌∙◌, ◌≡◌, ◌≤◌}
use Rattle.mig_lanes.proofs.Keeping.{copies_within}
use Rattle.mig_lanes.proofs.Limiting.{first_within, none_within, some_within}
use Rattle.mig_lanes.proofs.RoundCopies.{are_flights}
use Rattle.mig_lanes.proofs.Staying.{begins_last, begins_stay}

-- the first of such copies are so too
first_are : (n : ℕ) (fs : List Flight) → AreFlights fs → AreFlights (take n fs)
first_are n fs are = record {
  slots = λ k d lt. subst (λ (c : Flight). IsTrue (is_slot c.from) × IsTrue (is_slot c.to)) (sym (at k d lt)) (are.slots k d (within k lt));
  apart = λ i j d less lt same. are.apart i j d less (within j lt) (sym (ap (λ (c : Flight). c.to) (at i d (omega arith))) ∙ same ∙ ap (λ (c : Flight). c.to) (at j d lt));
  still = λ k d lt any. are.still k d (within k lt) (any.0, any.1, within any.0 any.2, sym (at any.0 any.1 any.2) ∙ any.3, any.4 ∙ ap (λ (c : Flight). c.from) (at k d lt));
}
  where
    within : (k : ℕ) → k < length (take n fs) → k < length fs
    within k lt = omega (arith, length-take n fs, lt)

    at : (k : ℕ) (d : Flight) → k < length (take n fs) → get_or (take n fs) k d ≡ get_or fs k d
    at k d lt = get_or-take n fs k d (omega (arith, length-take n fs, lt))

-- a beginning of rounds that are so
pub part_of : (disks : List Disk) (before : List Flight) (rounds : List (List Flight)) (added : List Event) → All (AreWithinLimits disks) rounds → All AreFlights rounds → BeginsRun before rounds added → IsPartOf disks before rounds added
part_of disks before rounds added within are begins = record {
  begins = begins;
  within = λ few. begins_stay (AreWithinLimits disks) (none_within disks) (first_within disks) (some_within disks) before rounds added few within begins;
  slots = λ proper. begins_last AreFlights flights_none first_are flights_filter before rounds added proper are begins;
}

-- a job's rounds
module _ (task : Task) (is : IsTask task) where
  round_within : (r : ℕ) → 1 ≤ r → r ≤ length task.plan → AreWithinLimits task.input.disks (copies_of task r)
  round_within zero low high = absurd (omega arith)
  round_within (suc k) low high = copies_within task.input is.valid.disk_names (round_at task.plan (suc k)) (λ j d lt. on_disks task is (suc k) low high (get_or (round_at task.plan (suc k)) j d) (Contains-get_or (round_at task.plan (suc k)) j d lt)) (is.runs.rounds k (omega arith)).limits

  each_round : (P : List Flight → Type 0) → ((r : ℕ) → 1 ≤ r → r ≤ length task.plan → P (copies_of task r)) → (k : ℕ) → k ≤ length task.plan → All P (later_rounds task k)
  each_round P each k le j d lt =
      let low : j < length task.plan - k = omega (arith, lt, length-map-range_with_len (copies_of task) (k + 1) (length task.plan - k)) in
      subst P (sym (get_or-map-range_with_len (copies_of task) (k + 1) (length task.plan - k) j (k + 1 + j) d low refl)) (each (k + 1 + j) (omega arith) (omega arith))

  pub job_part : (old : State) (k : ℕ) → k ≤ length task.plan → (added : List Event) → BeginsRun (flights old) (later_rounds task k) added → IsPart task old k added
  job_part old k le added = part_of task.input.disks (flights old) (later_rounds task k) added (each_round (AreWithinLimits task.input.disks) round_within k le) (each_round AreFlights (are_flights task is) k le)

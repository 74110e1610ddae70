-- Copies in flight: what the steps of a round's copies give, and the events of rounds.
use Rattle.std.specs.Prelude.{◌≡◌, ◌⊎◌, ◌+◌, ◌-◌, ◌≤◌, ◌++◌, Bool, ℕ, List, [], All, Err, Ok, OnOk, Result, length, take, map}
use Rattle.std.specs.List.{range_with_len}
use Rattle.std.specs.List.Sorted.{IsPermutation}
use Rattle.mig_base.specs.declared.cells.Event.{Event}
use Rattle.mig_base.specs.declared.cells.Flight.{Flight}
use Rattle.mig_base.specs.declared.inputs.Disk.{Disk}
use Rattle.mig_base.specs.Flights.{after_events, began, ended, AreFlights, AreWithinLimits, IsTargetOf}
use Rattle.mig_base.specs.Images.{Image, IsCopy}
use Rattle.mig_base.specs.JobCells.{IsJobCell, Tells}
use Rattle.mig_base.specs.Layouts.{round_at}
use Rattle.mig_base.specs.RoundEvents.{flights_of, Adds, AreRounds, BeginsRun, IsRun, StayWithinLimits}
use Rattle.mig_base.specs.RoundStates.{IsCopied}
use Rattle.mig_base.specs.Safety.{Contents, IsSoundAfter}
use Rattle.mig_base.specs.Stores.{State, flights, IsSettled}
use Rattle.mig_base.specs.Slots.{slot_of}
use Rattle.mig_base.specs.Tasks.{Task}
use Rattle.mig_base.specs.Texts.{item_name}
use Rattle.mig_lanes.specs.Runs.{HasFound}
use Rattle.mig_mover.specs.declared.faults.MoveFault.{MoveFault}
use Rattle.mig_store.specs.Grounds.{Sights}

-- the copies of a job's round
abbrev pub copies_of : Task → ℕ → List Flight
copies_of task round = flights_of task.input (round_at task.plan round)

-- each item that a round shifts was seen at its target
abbrev pub AreMoved : Task → ℕ → Sights → Type 0
AreMoved task round seen = All (λ s. seen (slot_of task.input s.to) (item_name task.input s.item.0)) (round_at task.plan round)

-- the copies of the rounds after the first k, round by round
abbrev pub later_rounds : Task → ℕ → List (List Flight)
later_rounds task k = map (copies_of task) (range_with_len (k + 1) (length task.plan - k))

-- the first events of these rounds
abbrev pub BeginsRounds : List (List Flight) → List Event → Type 0
BeginsRounds rounds added = (more : List Event) × AreRounds rounds (added ++ more)

-- the first events of a round: no copy ends before each has begun
pub record BeginsRound (round : List Flight) (added : List Event) : Type 0 where
  pub begun : ℕ
  pub done : List Flight
  pub left : List Flight
  pub is : added ≡ map began (take begun round) ++ map ended done
  pub all_first : (done ≡ []) ⊎ (length round ≤ begun)
  pub each_once : IsPermutation round (done ++ left)

-- the copies of the round that aren't in flight have been made
abbrev pub HaveLanded : List Flight → Image → State → Type 0
HaveLanded round first s = All (λ c. ¬ IsTargetOf (flights s) c.to → IsCopy (first c.from) (s.reads c.to)) round

-- Round k + 1 is copied: what reads give is sound after k rounds, each item that the round shifts stands at its target too, and nothing is unsettled.
pub record HasCopied (asked : Bool) (task : Task) (contents : Contents) (s : State) (k : ℕ) : Type 0 where
  pub sound : IsSoundAfter asked task.input task.plan task.digest contents s.reads k
  pub copied : IsCopied task.input task.plan contents s.reads k
  pub settled : IsSettled s
  pub tells : Tells (IsJobCell task.input task.plan) s.reads

-- the events are the first of those by which the copies before end and the rounds are carried out; they keep limits, and what copies in flight keep
pub record IsPartOf (disks : List Disk) (before : List Flight) (rounds : List (List Flight)) (added : List Event) : Type 0 where
  pub begins : BeginsRun before rounds added
  pub within : AreWithinLimits disks before → StayWithinLimits disks before added
  pub slots : AreFlights before → AreFlights (after_events before added)

-- the same of the rounds after the first k of a plan
abbrev pub IsPart : Task → State → ℕ → List Event → Type 0
IsPart task old k = IsPartOf task.input.disks (flights old) (later_rounds task k)

-- Where events are told: each copy that was in flight ends, and then the rounds after the first k begin and end theirs, round after round; or
-- the first of these events. On Ok all of them.
pub record Flies {T : Type 0} (task : Task) (old new : State) (k : ℕ) (result : Result T MoveFault) : Type 0 where
  pub part : Adds (IsPart task old k) old new
  pub all : OnOk result (Adds (IsRun (flights old) (later_rounds task k)) old new)

-- the same after as many rounds as were marked, which Ok answers
abbrev pub FliesOn : Task → State → State → Result ℕ MoveFault → Type 0
FliesOn task old new (Ok k) = HasFound task old k × Flies task old new k (Ok k)
FliesOn task old new (Err fault) = (k : ℕ) × HasFound task old k × Adds (IsPart task old k) old new

-- The events of rounds, and the limits of disks.
use Rattle.std.specs.Prelude.{◌≡◌, ◌++◌, ℕ, List, [], ◌∷◌, IsSome, take, map}
use Rattle.std.specs.Option.{option_map}
use Rattle.std.specs.List.Sorted.{IsPermutation}
use Rattle.mig_base.specs.declared.cells.Event.{Event}
use Rattle.mig_base.specs.declared.cells.Flight.{Flight}
use Rattle.mig_base.specs.declared.ids.Shift.{Shift}
use Rattle.mig_base.specs.declared.inputs.Disk.{Disk}
use Rattle.mig_base.specs.InputLists.{InputLists}
use Rattle.mig_base.specs.Slots.{slot_of}
use Rattle.mig_base.specs.Stores.{State}
use Rattle.mig_base.specs.Flights.{began, ended, after_events, AreWithinLimits}

-- the copy of a shift
abbrev pub flight_of : InputLists → Shift → Flight
flight_of input s = record { from = slot_of input s.from; to = slot_of input s.to }

-- the copies of a round, in the plan's order
abbrev pub flights_of : InputLists → List Shift → List Flight
flights_of input shifts = map (flight_of input) shifts

-- each copy of the round begins, in order, and then each ends once, in any order
pub record AreRoundEvents (round : List Flight) (added : List Event) : Type 0 where
  pub order : List Flight
  pub each_once : IsPermutation round order
  pub is : added ≡ map began round ++ map ended order

-- the events of these rounds, one after the other
abbrev pub AreRounds : List (List Flight) → List Event → Type 0
AreRounds [] added = added ≡ []
AreRounds (round ∷ rounds) added = (first : List Event) × (rest : List Event) × (added ≡ first ++ rest) × AreRoundEvents round first
    × AreRounds rounds rest

-- first each copy that was in flight ends once, in any order, and then come the events of the rounds
pub record IsRun (before : List Flight) (rounds : List (List Flight)) (added : List Event) : Type 0 where
  pub order : List Flight
  pub rest : List Event
  pub each_once : IsPermutation before order
  pub is : added ≡ map ended order ++ rest
  pub then_rounds : AreRounds rounds rest

-- the first of such events
abbrev pub BeginsRun : List Flight → List (List Flight) → List Event → Type 0
BeginsRun before rounds added = (more : List Event) × IsRun before rounds (added ++ more)

-- where events are told, events that have P are added
abbrev pub Adds : (List Event → Type 0) → State → State → Type 0
Adds P old new = IsSome old.events → (added : List Event) × P added × (new.events ≡ option_map (λ before. before ++ added) old.events)

-- after every prefix of the events the copies in flight, with those that were so before, are within limits
abbrev pub StayWithinLimits : List Disk → List Flight → List Event → Type 0
StayWithinLimits disks before added = (m : ℕ) → AreWithinLimits disks (after_events before (take m added))

-- What a mover promises, whatever it answers.
use Rattle.std.specs.Prelude.{◌≡◌, ◌≢◌, ◌⊎◌, ◌<◌, ◌≤◌, Bool, true, false, ℕ, List, [], All, IfSome, IsSome, length}
use Rattle.mig_base.specs.declared.cells.Cell.TheVariants.{Head, Gate}
use Rattle.mig_base.specs.declared.cells.Event.{Event}
use Rattle.mig_base.specs.Arrivals.{IsHaltSafe}
use Rattle.mig_base.specs.Flights.{IsTargetOf, AreFlights}
use Rattle.mig_base.specs.Images.{Image, SameBut, NoCell, IsCopy}
use Rattle.mig_base.specs.Journals.{is_armed, count_of}
use Rattle.mig_base.specs.JobCells.{IsJobCell, Tells, SettlesTo}
use Rattle.mig_base.specs.Readiness.{IsShifted, IsReady, IsFirstLost, IsFirstUsed}
use Rattle.mig_base.specs.RoundEvents.{IsRun, BeginsRun}
use Rattle.mig_base.specs.RoundStates.{HasDone}
use Rattle.mig_base.specs.Safety.{Contents, IsSound}
use Rattle.mig_base.specs.Slots.{IsThere}
use Rattle.mig_base.specs.Stores.{State, flights, Changes, ChangesOnly, LeavesOnly, IsSettled}
use Rattle.mig_base.specs.Tasks.{Task}
use Rattle.mig_store.specs.Grounds.{FailedOr}
use Rattle.mig_mover.specs.declared.faults.MoveFault.{MoveFault}
use Rattle.mig_mover.specs.declared.faults.MoveFault.TheVariants.{Store, Started, OtherPlan, NotStarted, NotThere, Occupied}

-- what reads may give once each copy in flight has ended: its target holds what its source held, and nothing else has changed
pub record IsLanded (s : State) (image : Image) : Type 0 where
  pub others : SameBut (IsTargetOf (flights s)) s.reads image
  pub copied : All (λ c. IsCopy (s.reads c.from) (image c.to)) (flights s)

-- some of the copies in flight have ended, and nothing else has changed
pub record Lands (old new : State) : Type 0 where
  pub added : List Event
  pub part : BeginsRun (flights old) [] added
  pub change : Changes (IsTargetOf (flights old)) NoCell added old new

-- each copy in flight has ended, nothing is unsettled, and nothing else has changed
pub record Settles (old new : State) : Type 0 where
  pub added : List Event
  pub ended : IsRun (flights old) [] added
  pub change : Changes (IsTargetOf (flights old)) NoCell added old new
  pub copied : All (λ c. IsCopy (old.reads c.from) (new.reads c.to)) (flights old)
  pub landed : flights new ≡ []
  pub settled : IsSettled new

-- Refusals

-- the gate is 1, where it is told
abbrev pub IsRunning : Image → Type 0
IsRunning image = IsSome (image Gate) → is_armed image ≡ true

-- the cells show why nothing is begun, by the first cause that holds
abbrev pub IsRefusal : Task → Image → MoveFault → Type 0
IsRefusal task image Store = ⊥
IsRefusal task image Started = IsRunning image × IfSome (image Head) (λ kept. kept ≡ task.digest)
IsRefusal task image (OtherPlan kept ours) = IsRunning image × IfSome (image Head) (λ head. kept ≡ head) × (kept ≢ task.digest) × (ours ≡ task.digest)
IsRefusal task image NotStarted = is_armed image ≡ false
IsRefusal task image (NotThere item) = (is_armed image ≡ false) × IsFirstLost task.input task.plan image item.0
IsRefusal task image (Occupied disk slot) = (is_armed image ≡ false)
    × ((item : ℕ) → item < length task.input.items → IsShifted task.plan item → IsThere task.input image item)
    × IsFirstUsed task.input task.plan image (record { disk = disk; slot = slot })

-- what a journal that names the plan with this digest is refused with
abbrev pub IsPlanFault : Task → List ℕ → MoveFault → Type 0
IsPlanFault task kept Started = kept ≡ task.digest
IsPlanFault task kept (OtherPlan theirs ours) = (theirs ≡ kept) × (kept ≢ task.digest) × (ours ≡ task.digest)
IsPlanFault task kept fault = ⊥

-- A store's fault comes only where its count rose, or it refused. A refusal comes by its cause, once each copy in flight has ended, and nothing was written.
abbrev pub IsFault : Type 0 → Task → State → State → MoveFault → Type 0
IsFault Refused task old new Store = FailedOr Refused old new
IsFault Refused task old new fault = Settles old new × IsRefusal task new.reads fault

-- the faults that starting a plan may have
abbrev pub IsStartFault : MoveFault → Type 0
IsStartFault NotStarted = ⊥
IsStartFault fault = Unit {0}

-- the faults that resuming a plan may have
abbrev pub IsResumeFault : MoveFault → Type 0
IsResumeFault Started = ⊥
IsResumeFault NotStarted = ⊥
IsResumeFault fault = Unit {0}

-- Promises

-- while the gate isn't 1, the image is ready
abbrev pub IsReadyIdle : Task → Image → Type 0
IsReadyIdle task image = is_armed image ≡ false → IsReady task.input task.plan image

-- where the gate is 1 once the store is settled, it stays 1
abbrev pub StaysArmed : State → State → Type 0
StaysArmed old new = SettlesTo (λ image. is_armed image ≡ true) old → LeavesOnly (λ image. is_armed image ≡ true) old new

-- Closing the plan after n rounds may have been stopped: the gate is still 1, and a crash leaves n rounds that count, or a journal that is closed there.
pub record MayBeHalting (task : Task) (contents : Contents) (s : State) (n : ℕ) : Type 0 where
  pub armed : is_armed s.reads ≡ true
  pub slots : AreFlights (flights s)
  pub images : SettlesTo (λ image. IsHaltSafe task.input task.plan task.digest contents image n) s

-- what reads give is ready once each copy in flight has ended
abbrev pub IsReadyOnceLanded : Task → State → Type 0
IsReadyOnceLanded task s = (image : Image) × IsLanded s image × IsReady task.input task.plan image

-- where the gate wasn't 1, the store was ready
abbrev pub WasReady : Task → State → Type 0
WasReady task old = AreFlights (flights old) → is_armed old.reads ≡ false → IsSome (old.reads Gate) → IsReadyOnceLanded task old

-- what every call of a mover keeps
pub record Keeps (task : Task) (old new : State) : Type 0 where
  -- where what reads give once it is settled is sound, a crash leaves nothing else that is new
  pub sound : (asked : Bool) (contents : Contents) → Tells (IsJobCell task.input task.plan) old.reads → SettlesTo (IsSound asked task.input task.plan task.digest contents) old
      → LeavesOnly (IsSound asked task.input task.plan task.digest contents) old new
  -- and so with readiness
  pub ready : Tells (IsJobCell task.input task.plan) old.reads → SettlesTo (IsReadyIdle task) old → LeavesOnly (IsReadyIdle task) old new
  -- no cell but the job's is written
  pub change : (added : List Event) × Changes (λ cell. IsTargetOf (flights old) cell ⊎ IsJobCell task.input task.plan cell) (IsJobCell task.input task.plan) added old new
  pub later : old.faults ≤ new.faults

-- what a migration stands at once it is entered
pub record Enters (task : Task) (old new : State) (k : ℕ) : Type 0 where
  pub done : (asked : Bool) (contents : Contents) → Tells (IsJobCell task.input task.plan) old.reads → SettlesTo (IsSound asked task.input task.plan task.digest contents) old
      → HasDone asked task.input task.plan task.digest contents new k
  pub landed : flights new ≡ []
  pub most : k ≤ length task.plan
  -- so many rounds were marked
  pub found : Tells (IsJobCell task.input task.plan) old.reads → AreFlights (flights old) → k ≡ count_of (length task.plan) old.reads
  -- the gate stays 1, where it is told
  pub armed : IsSome (old.reads Gate) → (image : Image) → new.may_leave image → is_armed image ≡ true
  pub ready : WasReady task old

-- the same from a store with nothing unsettled and no copy in flight
pub record KeepsOn (task : Task) (old new : State) : Type 0 where
  pub sound : (asked : Bool) (contents : Contents) → Tells (IsJobCell task.input task.plan) old.reads → IsSound asked task.input task.plan task.digest contents old.reads
      → LeavesOnly (IsSound asked task.input task.plan task.digest contents) old new
  pub ready : Tells (IsJobCell task.input task.plan) old.reads → IsReadyIdle task old.reads → LeavesOnly (IsReadyIdle task) old new
  pub change : ChangesOnly (IsJobCell task.input task.plan) old new
  pub later : old.faults ≤ new.faults

pub record EntersOn (task : Task) (old new : State) (k : ℕ) : Type 0 where
  pub done : (asked : Bool) (contents : Contents) → Tells (IsJobCell task.input task.plan) old.reads → IsSound asked task.input task.plan task.digest contents old.reads
      → HasDone asked task.input task.plan task.digest contents new k
  pub landed : flights new ≡ []
  pub most : k ≤ length task.plan
  pub found : Tells (IsJobCell task.input task.plan) old.reads → k ≡ count_of (length task.plan) old.reads
  pub armed : IsSome (old.reads Gate) → (image : Image) → new.may_leave image → is_armed image ≡ true
  pub ready : is_armed old.reads ≡ false → IsSome (old.reads Gate) → IsReady task.input task.plan old.reads

abbrev pub IsFaultOn : Type 0 → Task → State → State → MoveFault → Type 0
IsFaultOn Refused task old new Store = FailedOr Refused old new
IsFaultOn Refused task old new fault = ChangesOnly NoCell old new × IsRefusal task old.reads fault

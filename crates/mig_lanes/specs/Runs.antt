-- What starting and resuming a plan promise.
use Rattle.std.specs.Prelude.{◌≡◌, ◌≢◌, ◌≤◌, true, false, ℕ, List, [], Some, IfErr, IfOk, IfSome, IsOk, IsSome, OnOk, Result, Ok, Err, length}
use Rattle.mig_base.specs.declared.cells.Cell.TheVariants.{Gate, Head}
use Rattle.mig_base.specs.Arrivals.{IsArrived, IsReached}
use Rattle.mig_base.specs.FaultCounts.{Rose}
use Rattle.mig_base.specs.Flights.{AreFlights}
use Rattle.mig_base.specs.Journals.{is_armed, count_of}
use Rattle.mig_base.specs.JobCells.{IsJobCell, Tells, SettlesTo}
use Rattle.mig_base.specs.Readiness.{IsReady}
use Rattle.mig_base.specs.Safety.{Contents, IsSafe, IsSound}
use Rattle.mig_base.specs.Stores.{State, flights, IsSettled, LeavesOnly}
use Rattle.mig_base.specs.Tasks.{Task}
use Rattle.mig_mover.specs.Holdings.{IsUnrefused}
use Rattle.mig_mover.specs.Moves.{IsFault, IsReadyIdle, IsResumeFault, IsStartFault, Keeps, MayBeHalting, StaysArmed, WasReady}
use Rattle.mig_mover.specs.declared.faults.MoveFault.{MoveFault}
use Rattle.mig_mover.specs.declared.faults.MoveFault.TheVariants.{NotThere, Occupied, OtherPlan, Started}
use Rattle.mig_store.specs.Grounds.{FailedOr}

-- so many rounds were marked
pub record HasFound (task : Task) (old : State) (k : ℕ) : Type 0 where
  pub most : k ≤ length task.plan
  pub found : Tells (IsJobCell task.input task.plan) old.reads → AreFlights (flights old) → k ≡ count_of (length task.plan) old.reads

-- the target is reached, after k rounds that were marked before
pub record Finishes (task : Task) (old new : State) (k : ℕ) : Type 0 where
  pub reached : (contents : Contents) → Tells (IsJobCell task.input task.plan) old.reads
      → SettlesTo (IsSound true task.input task.plan task.digest contents) old → IsReached task.input task.plan task.digest contents new.reads
  -- also where slots that were left aren't zeros
  pub arrived : (contents : Contents) → Tells (IsJobCell task.input task.plan) old.reads
      → SettlesTo (IsSafe task.input task.plan task.digest contents) old → IsArrived task.input task.plan task.digest contents new.reads
  pub settled : IsSettled new
  pub landed : flights new ≡ []
  pub found : HasFound task old k
  pub ready : WasReady task old

-- what holds whatever is answered; the gate stays 1 once it is
pub record Carries (task : Task) (old new : State) : Type 0 where
  pub keeps : Keeps task old new
  pub armed : StaysArmed old new

-- the gate is 1, and the head has this digest
pub record HasStarted (s : State) (digest : List ℕ) : Type 0 where
  pub slots : AreFlights (flights s)
  pub armed : is_armed s.reads ≡ true
  pub head : s.reads Head ≡ Some digest

-- the fault is the store's, or what the journal shows
abbrev pub IsJournalFault : MoveFault → Type 0
IsJournalFault (NotThere item) = ⊥
IsJournalFault (Occupied disk slot) = ⊥
IsJournalFault fault = Unit {0}

-- What an Err says, where a store refuses on this ground alone.
pub record Faults {T : Type 0} (Refused : Type 0) (task : Task) (old new : State) (result : Result T MoveFault) : Type 0 where
  pub fault : IfErr result (IsFault Refused task old new)
  -- where each image whose gate isn't 1 is ready, what slots show is never a reason
  pub unrefused : Tells (IsJobCell task.input task.plan) old.reads → SettlesTo (IsReadyIdle task) old → IfErr result IsJournalFault
  -- where the gate is 1 and the store doesn't fail, a plan is refused for another one
  pub other : (kept : List ℕ) → HasStarted old kept → kept ≢ task.digest → ¬ FailedOr Refused old new → result ≡ Err (OtherPlan kept task.digest)

-- Starting a plan. Ok says that its target is reached.
pub record Starts (refuses : Type 0) (task : Task) (old new : State) (result : Result (Unit {0}) MoveFault) : Type 0 where
  pub carries : Carries task old new
  pub finishes : OnOk result (Finishes task old new 0)
  pub idle : OnOk result (AreFlights (flights old) → IsSome (old.reads Gate) → is_armed old.reads ≡ false)
  pub kind : IfErr result IsStartFault
  pub faults : Faults (refuses × ¬ Tells (IsJobCell task.input task.plan) old.reads) task old new result
  -- a store that is ready isn't refused
  pub ready : Tells (IsJobCell task.input task.plan) old.reads → SettlesTo (IsReady task.input task.plan) old
      → ¬ Rose old.faults new.faults → IsOk result
  -- a plan that the journal names is refused as started; so it is once its target is reached
  pub started : HasStarted old task.digest → ¬ FailedOr (refuses × ¬ Tells (IsJobCell task.input task.plan) old.reads) old new → result ≡ Err Started
  pub reached : (contents : Contents) → AreFlights (flights old) → IsReached task.input task.plan task.digest contents old.reads
      → ¬ FailedOr (refuses × ¬ Tells (IsJobCell task.input task.plan) old.reads) old new → result ≡ Err Started

-- where closing the plan early was stopped, no item is lost
abbrev pub KeepsHalting : Task → State → State → Type 0
KeepsHalting task old new = (contents : Contents) (n : ℕ) → Tells (IsJobCell task.input task.plan) old.reads → MayBeHalting task contents old n
    → LeavesOnly (IsSafe task.input task.plan task.digest contents) old new

-- Resuming a plan. Ok answers how many rounds were marked before, and says that the target is reached.
pub record Resumes (refuses : Type 0) (task : Task) (old new : State) (result : Result ℕ MoveFault) : Type 0 where
  pub carries : Carries task old new
  pub finishes : IfOk result (Finishes task old new)
  pub ours : IfOk result (λ k. AreFlights (flights old) → IsSome (old.reads Gate) → is_armed old.reads ≡ true
      → IfSome (old.reads Head) (λ kept. kept ≡ task.digest))
  pub kind : IfErr result IsResumeFault
  pub faults : Faults (refuses × ¬ IsUnrefused task old) task old new result
  -- a store that is ready isn't refused, nor is a plan that the journal names
  pub ready : Tells (IsJobCell task.input task.plan) old.reads → SettlesTo (IsReady task.input task.plan) old
      → ¬ FailedOr (refuses × ¬ IsUnrefused task old) old new → IsOk result
  pub resumed : HasStarted old task.digest → ¬ FailedOr (refuses × ¬ IsUnrefused task old) old new → IsOk result
  -- once the target is reached, all rounds are answered, and it stays reached
  pub reached : (contents : Contents) → Tells (IsJobCell task.input task.plan) old.reads → AreFlights (flights old)
      → IsReached task.input task.plan task.digest contents old.reads
      → ¬ FailedOr (refuses × ¬ IsUnrefused task old) old new → result ≡ Ok (length task.plan)
  pub kept : OnOk result ((contents : Contents) → Tells (IsJobCell task.input task.plan) old.reads
      → SettlesTo (IsReached task.input task.plan task.digest contents) old → IsReached task.input task.plan task.digest contents new.reads)
  -- also where closing the plan early was stopped: no item is lost, and each has arrived
  pub halting : KeepsHalting task old new
  pub halted : OnOk result ((contents : Contents) (n : ℕ) → Tells (IsJobCell task.input task.plan) old.reads → MayBeHalting task contents old n
      → IsArrived task.input task.plan task.digest contents new.reads)

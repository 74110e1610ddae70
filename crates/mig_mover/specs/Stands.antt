-- Where a migration stands.
use Rattle.std.specs.Prelude.{◌≡◌, ◌≢◌, ◌≤◌, ℕ, List, IfSome, length}
use Rattle.mig_base.specs.declared.cells.Cell.TheVariants.{Head}
use Rattle.mig_base.specs.Flights.{AreFlights}
use Rattle.mig_base.specs.Images.{Image}
use Rattle.mig_base.specs.Journals.{count_of}
use Rattle.mig_base.specs.JobCells.{IsJournal, IsJobCell, Tells}
use Rattle.mig_base.specs.Stores.{State, flights}
use Rattle.mig_mover.specs.Moves.{IsRunning, IsRefusal, Settles}
use Rattle.mig_base.specs.Tasks.{Task}
use Rattle.mig_store.specs.Grounds.{FailedOr}
use Rattle.mig_mover.specs.declared.faults.MoveFault.{MoveFault}
use Rattle.mig_mover.specs.declared.faults.MoveFault.TheVariants.{Store, OtherPlan, NotStarted}

-- where they are told, the gate is 1, the head is the job's digest, and k rounds count
pub record IsAt (task : Task) (image : Image) (k : ℕ) : Type 0 where
  pub running : IsRunning image
  pub ours : IfSome (image Head) (λ kept. kept ≡ task.digest)
  pub count : Tells (IsJournal (length task.plan)) image → count_of (length task.plan) image ≡ k

-- the store is settled, and stands after k rounds
pub record Stands (task : Task) (old new : State) (k : ℕ) : Type 0 where
  pub settles : Settles old new
  pub most : k ≤ length task.plan
  pub at : IsAt task new.reads k
  -- so many rounds were marked
  pub found : Tells (IsJobCell task.input task.plan) old.reads → AreFlights (flights old) → k ≡ count_of (length task.plan) old.reads

-- a store's fault, or that of a journal that names another plan, by its digest
abbrev pub IsOtherFault : Type 0 → Task → List ℕ → State → State → MoveFault → Type 0
IsOtherFault Refused task kept old new Store = FailedOr Refused old new
IsOtherFault Refused task kept old new (OtherPlan theirs ours) = (theirs ≡ kept) × (kept ≢ task.digest) × (ours ≡ task.digest)
IsOtherFault Refused task kept old new fault = ⊥

-- Why it isn't said where a migration stands: a store's fault, a gate that isn't 1, or another plan's digest in the head.
abbrev pub IsStandFault : Type 0 → Task → State → State → MoveFault → Type 0
IsStandFault Refused task old new Store = FailedOr Refused old new
IsStandFault Refused task old new NotStarted = Settles old new × IsRefusal task new.reads NotStarted
IsStandFault Refused task old new (OtherPlan kept ours) = Settles old new × IsRefusal task new.reads (OtherPlan kept ours)
IsStandFault Refused task old new fault = ⊥

-- How a migration is closed early.
use Rattle.std.specs.Prelude.{◌≡◌, ◌⊎◌, ℕ}
use Rattle.mig_base.specs.declared.cells.Cell.{Cell}
use Rattle.mig_base.specs.declared.cells.Cell.TheVariants.{Gate}
use Rattle.mig_base.specs.declared.ids.Spot.{Spot}
use Rattle.mig_base.specs.Arrivals.{IsNamed, IsHalted, IsHaltSafe}
use Rattle.mig_base.specs.Images.{Image}
use Rattle.mig_base.specs.JobCells.{IsFreeSlot, IsHaltCell, Tells}
use Rattle.mig_base.specs.Layouts.{At, IsTaken}
use Rattle.mig_base.specs.Safety.{Contents, IsSafe}
use Rattle.mig_base.specs.Slots.{slot_of}
use Rattle.mig_base.specs.Stores.{State, LeavesOnly}
use Rattle.mig_mover.specs.Erasures.{HoldsZeros}
use Rattle.mig_base.specs.Tasks.{Task}

-- zeros stand at each named spot that is free after k rounds, where its slot is told
abbrev pub AreErased : Task → ℕ → Image → Type 0
AreErased task k image = (spot : Spot) → IsNamed task.input task.plan spot → ¬ IsTaken (At task.input task.plan k) spot → HoldsZeros (image (slot_of task.input spot))

-- the cells that closing after k rounds writes: the gate, and the named slots that are free then
abbrev pub IsClosingCell : Task → ℕ → Cell → Type 0
IsClosingCell task k cell = (cell ≡ Gate) ⊎ IsFreeSlot task.input task.plan k cell

-- where what reads give was safe, each image that a crash leaves may go on after k rounds, or is halted there
abbrev pub KeepsHaltSafe : Task → ℕ → State → State → Type 0
KeepsHaltSafe task k old new = (contents : Contents) → Tells (IsHaltCell task.input task.plan) old.reads → IsSafe task.input task.plan task.digest contents old.reads
    → LeavesOnly (λ image. IsHaltSafe task.input task.plan task.digest contents image k) old new

-- and at the end it is halted
abbrev pub EndsHalted : Task → ℕ → State → State → Type 0
EndsHalted task k old new = (contents : Contents) → Tells (IsHaltCell task.input task.plan) old.reads → IsSafe task.input task.plan task.digest contents old.reads
    → IsHalted task.input task.plan contents new.reads k

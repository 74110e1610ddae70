-- The stores of a drill, and what they hold before a stop.
use Rattle.std.specs.Prelude.{◌≡◌, ◌⊎◌, ◌↔◌, ℕ, List, All, Contains, IfSome, IsSome}
use Rattle.mig_base.specs.declared.cells.Cell.{Cell}
use Rattle.mig_base.specs.declared.cells.Flight.{Flight}
use Rattle.mig_base.specs.Flights.{IsSourceOf, IsTargetOf}
use Rattle.mig_base.specs.Images.{Image}
use Rattle.mig_base.specs.InputLists.{InputLists}
use Rattle.mig_base.specs.JobCells.{IsJobCell, Tells}
use Rattle.mig_base.specs.Readiness.{IsShifted}
use Rattle.mig_base.specs.Slots.{item_cell, made_slot, IsListedCell}
use Rattle.mig_base.specs.Stores.{State}
use Rattle.mig_base.specs.Tasks.{Task}
use Rattle.mig_base.specs.Texts.{item_name}

-- the second list has the cells of the first one, and these
abbrev pub AddsCells : (Cell → Type 0) → List Cell → List Cell → Type 0
AddsCells P old new = (cell : Cell) → Contains new cell ↔ (Contains old cell ⊎ P cell)

-- one of the copies reads the cell, or writes it
abbrev pub IsEndOf : List Flight → Cell → Type 0
IsEndOf flights cell = IsSourceOf flights cell ⊎ IsTargetOf flights cell

-- the cells are those by which the plan is carried out
abbrev pub AreJobCells : Task → List Cell → Type 0
AreJobCells task cells = (cell : Cell) → Contains cells cell ↔ IsJobCell task.input task.plan cell

-- each of the job's cells is told
abbrev pub TellsJob : Task → State → Type 0
TellsJob task s = Tells (IsJobCell task.input task.plan) s.reads

-- the cells that were told still are
abbrev pub StaysTold : Image → Image → Type 0
StaysTold old new = (cell : Cell) → IsSome (old cell) → IsSome (new cell)

-- where the cell is told, it holds zeros alone
abbrev pub IsZeroed : Image → Cell → Type 0
IsZeroed image cell = IfSome (image cell) (λ bytes. All (λ byte. byte ≡ 0) bytes)

-- where the cell at which the item is listed is told, it holds the slot that is made for the item
abbrev pub HoldsMade : InputLists → Image → ℕ → Type 0
HoldsMade input image item = IfSome (image (item_cell input item)) (λ slot. slot ≡ made_slot (item_name input item))

-- each item that the plan shifts stands where it is listed, and the job's cells where no item is listed are clear
pub record IsPrepared (task : Task) (image : Image) : Type 0 where
  pub made : (item : ℕ) → IsShifted task.plan item → HoldsMade task.input image item
  pub clear : (cell : Cell) → IsJobCell task.input task.plan cell → ¬ IsListedCell task.input cell → IsZeroed image cell

-- Slots that are erased, and what was asked for before.
use Rattle.std.specs.Prelude.{◌≡◌, ℕ, List, Option, IfSome, All}
use Rattle.std.specs.Option.{option_map}
use Rattle.mig_base.specs.declared.cells.Cell.{Cell}
use Rattle.mig_base.specs.JobCells.{IsPlanSlot}
use Rattle.mig_base.specs.Layouts.{At, round_at}
use Rattle.mig_base.specs.Readiness.{IsShifted}
use Rattle.mig_base.specs.Slots.{slot_of, zeros}
use Rattle.mig_base.specs.Tasks.{Task}

-- the cell holds zeros, where it is told
abbrev pub HoldsZeros : Option (List ℕ) → Type 0
HoldsZeros cell = IfSome cell (λ bytes. bytes ≡ zeros)

-- each copy of a round was compared with what its source still holds
abbrev pub AreCompared : (Cell → Cell → Type 0) → Task → ℕ → Type 0
AreCompared compared task round = All (λ s. compared (slot_of task.input s.from) (slot_of task.input s.to)) (round_at task.plan round)

-- the slot of the item after k rounds was asked for, where the plan shifts the item
abbrev pub IsItemAsked : (Cell → Type 0) → Task → ℕ → ℕ → Type 0
IsItemAsked asked task k item = IsShifted task.plan item → IfSome (option_map (slot_of task.input) (At task.input task.plan k item)) asked

-- each slot that the plan names was asked for
abbrev pub AreAsked : (Cell → Type 0) → Task → Type 0
AreAsked asked task = (cell : Cell) → IsPlanSlot task.input task.plan cell → asked cell

-- The cells that a migration uses, and what is supposed of them.
use Rattle.std.specs.Prelude.{◌≡◌, ◌⊎◌, ◌≤◌, ℕ, List, [], IsSome, length}
use Rattle.mig_base.specs.declared.cells.Cell.{Cell}
use Rattle.mig_base.specs.declared.cells.Cell.TheVariants.{Head, Gate, Mark}
use Rattle.mig_base.specs.declared.ids.Spot.{Spot}
use Rattle.mig_base.specs.declared.ids.Shift.{Shift}
use Rattle.mig_base.specs.InputLists.{InputLists}
use Rattle.mig_base.specs.Layouts.{At, IsTaken}
use Rattle.mig_base.specs.Images.{Image}
use Rattle.mig_base.specs.Stores.{State, flights}
use Rattle.mig_base.specs.Slots.{slot_of}
use Rattle.mig_base.specs.Arrivals.{IsPlanSpot, IsNamed}

-- one of the marks 1 to so many
abbrev pub IsMark : ℕ → Cell → Type 0
IsMark rounds cell = (n : ℕ) × (1 ≤ n) × (n ≤ rounds) × (cell ≡ Mark n)

-- the head, the gate or one of these marks
abbrev pub IsJournal : ℕ → Cell → Type 0
IsJournal rounds cell = (cell ≡ Head) ⊎ (cell ≡ Gate) ⊎ IsMark rounds cell

-- a slot that the plan names
abbrev pub IsPlanSlot : InputLists → List (List Shift) → Cell → Type 0
IsPlanSlot input plan cell = (spot : Spot) × IsPlanSpot plan spot × (slot_of input spot ≡ cell)

-- a slot that an item has now, or that the plan names
abbrev pub IsNamedSlot : InputLists → List (List Shift) → Cell → Type 0
IsNamedSlot input plan cell = (spot : Spot) × IsNamed input plan spot × (slot_of input spot ≡ cell)

-- a slot that an item has now, or that the plan names, and that is free after k rounds
abbrev pub IsFreeSlot : InputLists → List (List Shift) → ℕ → Cell → Type 0
IsFreeSlot input plan k cell = (spot : Spot) × IsNamed input plan spot × (¬ IsTaken (At input plan k) spot) × (slot_of input spot ≡ cell)

-- the cells that carrying out rounds may change, once the journal is armed
abbrev pub IsWorkCell : InputLists → List (List Shift) → Cell → Type 0
IsWorkCell input plan cell = IsMark (length plan) cell ⊎ IsPlanSlot input plan cell

-- the cells that carrying out a plan may change
abbrev pub IsJobCell : InputLists → List (List Shift) → Cell → Type 0
IsJobCell input plan cell = IsJournal (length plan) cell ⊎ IsPlanSlot input plan cell

-- the cells that closing a migration early may change
abbrev pub IsHaltCell : InputLists → List (List Shift) → Cell → Type 0
IsHaltCell input plan cell = IsJournal (length plan) cell ⊎ IsNamedSlot input plan cell

-- each of these cells is told
abbrev pub Tells : (Cell → Type 0) → Image → Type 0
Tells P image = (cell : Cell) → P cell → IsSome (image cell)

-- Once a sync succeeds, what reads give has P: it has P and no copy is in flight, or each image that a crash may leave has P, what reads give among them.
abbrev pub SettlesTo : (Image → Type 0) → State → Type 0
SettlesTo P s = (P s.reads × (flights s ≡ [])) ⊎ (((image : Image) → s.may_leave image → P image) × s.may_leave s.reads)

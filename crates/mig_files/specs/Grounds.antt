-- Why a store over files answers with a fault.
use Rattle.std.specs.Prelude.{◌⊎◌, ℕ, List}
use Rattle.mig_base.specs.declared.cells.Cell.{Cell}
use Rattle.mig_base.specs.FaultCounts.{Rose}
use Rattle.mig_base.specs.Images.{Image}
use Rattle.mig_calls.specs.Files.{FilesState}
use Rattle.mig_store.specs.Grounds.{IsLast, Lacks, Sights}

-- a call failed or was given up, or the store refused on this ground
abbrev pub IsFaultFor : Type 0 → FilesState → FilesState → Type 0
IsFaultFor Ground old new = Rose old.faults new.faults ⊎ (Rose old.refused new.refused × Ground)

-- it counts, whatever the ground
abbrev pub IsSaid : FilesState → FilesState → Type 0
IsSaid old new = Rose old.faults new.faults ⊎ Rose old.refused new.refused

-- the slot holds an item that was seen at no other, and not this one
abbrev pub IsLastBut : Image → Sights → Cell → List ℕ → Type 0
IsLastBut image seen slot item = IsLast image seen slot × Lacks image slot item

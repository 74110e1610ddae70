-- When a store over files may refuse what no call failed at, and how that is counted.
use Rattle.std.specs.Prelude.{◌+◌, ◌^◌, ◌<◌, ◌≤◌, ℕ, ⊤, Bool, true, false, IsTrue, List, if◌then◌else◌}
use Rattle.mig_base.specs.declared.cells.Cell.{Cell}
use Rattle.mig_base.specs.Cells.{cell_len}
use Rattle.mig_base.specs.Naming.{IsName}
use Rattle.mig_base.specs.Slots.{header_of}
use Rattle.mig_calls.specs.declared.refusals.Refusal.{Refusal}
use Rattle.mig_calls.specs.declared.refusals.Refusal.TheVariants.{Memory, AfterSync, Interrupted, Full, TooShort, NotHeld, NoDisk, Cut, Differs, NoItem, Held}
use Rattle.mig_calls.specs.Places.{file_of, offset_of}
use Rattle.mig_calls.specs.Files.{FilesState, HasBytes, EndsAt}

-- the cell begins as a slot that holds the item of this name
abbrev pub HoldsItem : FilesState → Cell → List ℕ → Type 0
HoldsItem s cell item = HasBytes (s.reads (file_of cell)) (offset_of cell) 34 (header_of item)

-- the file of the cell ends before the cell does
abbrev pub EndsBefore : FilesState → Cell → Type 0
EndsBefore s cell = (end : ℕ) × (end < offset_of cell + cell_len cell) × EndsAt (s.reads (file_of cell)) end

-- where the file of the cell is told
abbrev pub WhereTold : FilesState → Cell → Type 0 → Type 0
WhereTold s cell P = IsTrue (s.told (file_of cell)) → P

-- when the store may refuse for this
abbrev pub IsRefusalCause : FilesState → Refusal → Type 0
IsRefusalCause s (Memory place) = ⊤
IsRefusalCause s AfterSync = 0 < s.faults
IsRefusalCause s (Interrupted place) = 2 ^ 63 ≤ s.unmade
IsRefusalCause s (Full place) = 0 < s.unmade
IsRefusalCause s (TooShort slot) = WhereTold s slot (EndsBefore s slot)
IsRefusalCause s (NotHeld slot item) = WhereTold s slot (¬ HoldsItem s slot item)
IsRefusalCause s (NoDisk slot item) = WhereTold s slot (EndsAt (s.reads (file_of slot)) 0)
IsRefusalCause s (Cut slot item) = WhereTold s slot (EndsBefore s slot)
IsRefusalCause s (Differs slot other item) = WhereTold s slot (HoldsItem s slot item) × WhereTold s other (HoldsItem s other item)
IsRefusalCause s (NoItem slot) = (item : List ℕ) → IsName item → WhereTold s slot (¬ HoldsItem s slot item)
IsRefusalCause s (Held slot item) = WhereTold s slot (HoldsItem s slot item)

-- whether it refuses for what the slots hold, and not for want of memory, of a call that is made or of bytes of a file, or since a call failed
abbrev pub is_found : Refusal → Bool
is_found (Memory place) = false
is_found AfterSync = false
is_found (Interrupted place) = false
is_found (Full place) = false
is_found (TooShort slot) = false
is_found (Cut slot item) = false
is_found why = true

-- the count in which it counts
abbrev pub counted : Refusal → FilesState → ℕ
counted why s = if is_found why then s.refused else s.faults

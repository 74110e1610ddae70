-- What a store in memory tells of a cell, and what calls do to it.
use Rattle.std.specs.Prelude.{◌/◌, ◌==◌, Bool, true, false, ℕ, List, [], Option, Some, None, length, take, replicate, slice_get, if◌then◌else◌}
use Rattle.mig_store.specs.Bytes.{overwritten}
use Rattle.mig_store.specs.Calls.{StoreCall, Wrote, Copies}
use Rattle.mig_store.specs.declared.contents.Entry.{Entry}
use Rattle.mig_store.specs.declared.contents.Pick.{Pick}
use Rattle.mig_store.specs.declared.contents.Pick.TheVariants.{Old, New, Half, Ones}

-- its bytes at the last sync, those that a read gives, those last asked to be written, and whether that was since the last sync
pub record CellBytes : Type 0 where
  pub kept : List ℕ
  pub shown : List ℕ
  pub asked : List ℕ
  pub unsettled : Bool

-- a cell that is settled
abbrev pub fresh : List ℕ → CellBytes
fresh bytes = record { kept = bytes; shown = bytes; asked = bytes; unsettled = false }

-- these bytes are asked to be written, and are written if the write succeeds
abbrev pub ask : List ℕ → Bool → CellBytes → CellBytes
ask bytes done c = record { kept = c.kept; shown = if done then bytes else c.shown; asked = bytes; unsettled = true }

-- a copy to the cell ends
abbrev pub land : CellBytes → CellBytes
land c = record { kept = c.kept; shown = c.asked; asked = c.asked; unsettled = c.unsettled }

-- a sync succeeds
abbrev pub settle : CellBytes → CellBytes
settle c = fresh c.shown

-- the bytes that a pick takes, from those at the last sync and those last asked to be written
abbrev pub bytes_of : Pick → List ℕ → List ℕ → List ℕ
bytes_of Old kept asked = kept
bytes_of New kept asked = asked
bytes_of Half kept asked = overwritten (take (length kept / 2) asked) kept
bytes_of Ones kept asked = replicate (length kept) 1

-- what the cell holds after a crash
abbrev pub picked : Pick → CellBytes → List ℕ
picked pick c = if c.unsettled then bytes_of pick c.kept c.asked else c.shown

-- the cell after a crash
abbrev pub crash : Pick → CellBytes → CellBytes
crash pick c = fresh (picked pick c)

-- the bytes that a call asks to be written
abbrev pub asked_by : Option StoreCall → List ℕ
asked_by (Some (Wrote cell bytes done)) = bytes
asked_by (Some (Copies from to bytes done)) = bytes
asked_by call = []

-- the bytes that the call at a place asks for, or the first ones
abbrev pub bytes_at : List StoreCall → List ℕ → Option ℕ → List ℕ
bytes_at calls first None = first
bytes_at calls first (Some place) = asked_by (slice_get calls place)

-- what an entry says of its cell in this period, after these calls
abbrev pub seen : List StoreCall → ℕ → Entry → CellBytes
seen calls period e =
    if e.period == period
    then record { kept = bytes_at calls e.first e.kept; shown = bytes_at calls e.first e.shown; asked = bytes_at calls e.first e.asked; unsettled = true }
    else fresh (bytes_at calls e.first e.shown)

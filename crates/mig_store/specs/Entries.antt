-- The entries of cells.
use Rattle.std.specs.Prelude.{◌≤◌, ◌<◌, ℕ, List, All, None, IfSome, map}
use Rattle.mig_base.specs.declared.cells.Cell.{Cell}
use Rattle.mig_store.specs.Calls.{StoreCall}
use Rattle.mig_store.specs.declared.held.Held.{Held}
use Rattle.mig_store.specs.declared.contents.Entry.{Entry}
use Rattle.mig_store.specs.declared.contents.Pick.{Pick}
use Rattle.mig_store.specs.Asking.{CellBytes, picked, seen}
use Rattle.mig_store.specs.HeldCells.{held_map, zero_bytes}

-- what each cell held before the first call
abbrev pub first_of : Entry → List ℕ
first_of e = e.first

abbrev pub firsts : List (Held Entry) → List (Held (List ℕ))
firsts held = map (held_map first_of) held

-- what the entries say in this period, after these calls
abbrev pub seen_all : List StoreCall → ℕ → List (Held Entry) → List (Held CellBytes)
seen_all calls period held = map (held_map (seen calls period)) held

-- an entry after a crash
abbrev pub crash_entry : List StoreCall → ℕ → Pick → Entry → Entry
crash_entry calls period pick e = record { first = picked pick (seen calls period e); kept = None; shown = None; asked = None; period = 0 }

-- the cell wasn't asked to be written in a later period, and by none but the first calls
pub record IsWithinPeriod (count period : ℕ) (e : Entry) : Type 0 where
  pub earlier : e.period ≤ period
  pub kept : IfSome e.kept (λ place. place < count)
  pub shown : IfSome e.shown (λ place. place < count)
  pub asked : IfSome e.asked (λ place. place < count)

abbrev pub AreWithin : ℕ → ℕ → List (Held Entry) → Type 0
AreWithin count period held = All (λ h. IsWithinPeriod count period h.value) held

-- a cell that was never written
abbrev pub zero_entry : Cell → Held Entry
zero_entry cell = record { cell = cell; value = record { first = zero_bytes cell; kept = None; shown = None; asked = None; period = 0 } }

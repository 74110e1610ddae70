-- The bytes of a file in memory, and what the device has of them.
use Rattle.std.specs.Prelude.{ℕ, ◌-◌, ◌%◌, true, false, List, Option, Some, None, if◌then◌else◌, nat_lt, slice_get, slice_index_or}
use Rattle.mig_calls.specs.declared.file_bytes.Byte.{Byte}
use Rattle.mig_calls.specs.declared.pick.FilePick.{FilePick}
use Rattle.mig_calls.specs.declared.pick.FilePick.TheVariants.{Old, New, Front, Back, Ones}

-- a byte past the end of its file
abbrev pub no_byte : Byte
no_byte = record { shown = 0; kept = 0; loose = false }

-- the byte at an offset of these
abbrev pub byte_at : List Byte → ℕ → Byte
byte_at bytes i = slice_index_or bytes i no_byte

-- a byte of which another value is written, if one is
abbrev pub written_over : Option ℕ → Byte → Byte
written_over None old = old
written_over (Some value) old = record { shown = value; kept = old.kept; loose = true }

-- a file with these values written from an offset on
abbrev pub with_written : ℕ → List ℕ → (ℕ → Byte) → ℕ → Byte
with_written at values file i = if nat_lt i at then file i else written_over (slice_get values (i - at)) (file i)

-- a byte that the device has, with this value
abbrev pub settled_as : ℕ → Byte
settled_as value = record { shown = value; kept = value; loose = false }

-- a byte that was brought to the device
abbrev pub settled : Byte → Byte
settled b = settled_as b.shown

-- what a crash leaves of the byte at an offset that isn't settled
abbrev pub pick_of : FilePick → ℕ → Byte → ℕ
pick_of Old i b = b.kept
pick_of New i b = b.shown
pick_of Front i b = if nat_lt (i % 4096) 2048 then b.shown else b.kept
pick_of Back i b = if nat_lt (i % 4096) 2048 then b.kept else b.shown
pick_of Ones i b = 1

-- what it leaves of any byte
abbrev pub picked_byte : FilePick → ℕ → Byte → ℕ
picked_byte pick i b = if b.loose then pick_of pick i b else b.shown

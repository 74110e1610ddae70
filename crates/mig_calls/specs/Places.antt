-- Where the cells lie in the store's files.
use Rattle.std.specs.Prelude.{ℕ, zero, suc, ◌+◌, ◌*◌, Bool, true, false}
use Rattle.std.specs.Str.{bytes_eq}
use Rattle.mig_base.specs.declared.cells.Cell.{Cell}
use Rattle.mig_base.specs.declared.cells.Cell.TheVariants.{Slot, Head, Gate, Mark}
use Rattle.mig_calls.specs.declared.places.Place.{Place}
use Rattle.mig_calls.specs.declared.places.Place.TheVariants as place

-- the file of a cell: the disk's own, or the journal
abbrev pub file_of : Cell → Place
file_of (Slot disk slot) = place.Disk disk
file_of cell = place.Journal

-- where a mark lies in the journal: marks count from 1, and mark 0, which no plan uses, has a byte behind the head
abbrev pub mark_at : ℕ → ℕ
mark_at zero = 256
mark_at (suc n) = 512 * (n + 2)

-- the byte of its file at which a cell begins
abbrev pub offset_of : Cell → ℕ
offset_of (Slot disk slot) = 4096 * slot
offset_of Head = 0
offset_of Gate = 512
offset_of (Mark n) = mark_at n

-- whether both are the same file
abbrev pub is_place : Place → Place → Bool
is_place (place.Disk d) (place.Disk e) = bytes_eq d e
is_place place.Journal place.Journal = true
is_place p q = false

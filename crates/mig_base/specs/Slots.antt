-- What the slots of disks hold.
use Rattle.std.specs.Prelude.{◌≡◌, ◌≢◌, ◌-◌, ◌%◌, ◌++◌, ℕ, List, ◌∷◌, Contains, IfSome, length, map, replicate, take, slice_index_or}
use Rattle.std.specs.List.{range_with_len}
use Rattle.mig_base.specs.declared.cells.Cell.{Cell}
use Rattle.mig_base.specs.declared.cells.Cell.TheVariants.{Slot}
use Rattle.mig_base.specs.declared.ids.Spot.{Spot}
use Rattle.mig_base.specs.InputLists.{InputLists, no_spot}
use Rattle.mig_base.specs.Texts.{item_name, disk_name}
use Rattle.mig_base.specs.Images.{Image}

-- the cell of a spot
abbrev pub slot_of : InputLists → Spot → Cell
slot_of input spot = Slot (disk_name input spot.disk.0) spot.slot

-- the cell of the spot where an item is now
abbrev pub item_cell : InputLists → ℕ → Cell
item_cell input item = slot_of input (slice_index_or input.spots item no_spot)

-- the cell of a spot where some item is now
abbrev pub IsListedCell : InputLists → Cell → Type 0
IsListedCell input cell = (spot : Spot) × Contains input.spots spot × (slot_of input spot ≡ cell)

-- an erased slot
unfoldable pub zeros : List ℕ
zeros = replicate 4096 0

-- the first bytes of a slot with the item of this name: 1, the name's length, and the name, followed by zeros up to 32 bytes
abbrev pub header_of : List ℕ → List ℕ
header_of name = 1 ∷ length name ∷ (name ++ replicate (32 - length name) 0)

-- the slot's header names the item of this name
abbrev pub HasHeader : List ℕ → List ℕ → Type 0
HasHeader name slot = take 34 slot ≡ header_of name

-- the slot that is made for the item of this name: its header, and then the name again and again
abbrev pub made_slot : List ℕ → List ℕ
made_slot name = header_of name ++ map (λ p. slice_index_or name (p % length name) 0) (range_with_len 0 4062)

-- where an item's cell is told, its header names the item
abbrev pub IsThere : InputLists → Image → ℕ → Type 0
IsThere input image item = IfSome (image (item_cell input item)) (HasHeader (item_name input item))

-- where an item's cell is told, its header doesn't name the item
abbrev pub IsLost : InputLists → Image → ℕ → Type 0
IsLost input image item = IfSome (image (item_cell input item)) (λ slot. ¬ HasHeader (item_name input item) slot)

-- a slot's first byte; 1 means that the slot is used
abbrev pub first_byte : List ℕ → ℕ
first_byte slot = slice_index_or slot 0 0

-- where the spot's cell is told, it is marked as used
abbrev pub IsUsed : InputLists → Image → Spot → Type 0
IsUsed input image spot = IfSome (image (slot_of input spot)) (λ slot. first_byte slot ≡ 1)

-- where the spot's cell is told, it isn't
abbrev pub IsUnused : InputLists → Image → Spot → Type 0
IsUnused input image spot = IfSome (image (slot_of input spot)) (λ slot. first_byte slot ≢ 1)

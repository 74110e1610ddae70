-- The text of next disks.
use Rattle.std.specs.Prelude.{◌≡◌, ◌<◌, ℕ, List, [], ◌∷◌, All, length, map, codes}
use Rattle.std.specs.List.{join_with_byte, zip}
use Rattle.mig_base.specs.declared.ids.DiskId.{DiskId}
use Rattle.mig_base.specs.declared.names.Name.{Name}
use Rattle.mig_base.specs.InputLists.{InputLists}
use Rattle.mig_base.specs.Texts.{disk_name, text_of_lines}

-- `ITEM,DISK`
abbrev pub next_line : InputLists → Name × DiskId → List ℕ
next_line input (item, disk) = join_with_byte 44 (item ∷ disk_name input disk.0 ∷ [])

-- the lines of the text of next disks
abbrev pub next_lines : InputLists → List DiskId → List (List ℕ)
next_lines input next = codes "item,disk" ∷ map (next_line input) (zip input.items next)

-- the bytes are the spelling of the items' next disks
pub record NextText (input : InputLists) (next : List DiskId) (bytes : List ℕ) : Type 0 where
  pub len : length next ≡ length input.items
  pub disks : All (λ disk. disk.0 < length input.disks) next
  pub lines : bytes ≡ text_of_lines (next_lines input next)

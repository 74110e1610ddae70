-- At how many slots items were seen.
use Rattle.std.specs.Prelude.{◌≡◌, ◌≤◌, ◌+◌, ℕ, nat_eq, Bool, true, false, List, [], ◌∷◌, Option, Some, None, if◌then◌else◌}
use Rattle.std.specs.Map.{keys_of}
use Rattle.std.specs.List.{IsDistinct, list_any}
use Rattle.std.specs.Cmp.Lexicographic.{pointwise}
use Rattle.mig_base.specs.contracts.cells.CellPartialEq.TheImpl.{eq-value}
use Rattle.mig_base.specs.declared.cells.Cell.{Cell}
use Rattle.mig_base.specs.Cells.{is_cell}
use Rattle.mig_files.specs.Seeing.{seen_at}

-- whether this is the item
abbrev pub is_item : List ℕ → Option (List ℕ) → Bool
is_item item None = false
is_item item (Some other) = pointwise nat_eq other item

-- 1 where it is
abbrev pub one_if : Bool → ℕ
one_if is = if is then 1 else 0

-- at how many slots the item was seen
abbrev pub times : List (Cell × List ℕ) → List ℕ → ℕ
times [] item = 0
times (e ∷ seen) item = one_if (is_item item (Some e.1)) + times seen item

-- the number that a table has for an item
abbrev pub item_count : List (List ℕ × ℕ) → List ℕ → ℕ
item_count [] item = 0
item_count (e ∷ counts) item = if pointwise nat_eq item e.0 then e.1 else item_count counts item

-- whether an item is one of these
abbrev pub is_among : List (List ℕ) → List ℕ → Bool
is_among items item = list_any (pointwise nat_eq item) items

-- the numbers of items, and those that count once more
abbrev pub Counts : Type 0
Counts = List (List ℕ × ℕ) × List (List ℕ)

-- an item's number
abbrev pub item_number : Counts → List ℕ → ℕ
item_number counts item = item_count counts.0 item + one_if (is_among counts.1 item)

-- none counts once more that has no number
abbrev pub CountMore : Counts → Type 0
CountMore counts = (item : List ℕ) → is_among counts.1 item ≡ true → 1 ≤ item_count counts.0 item

-- each slot is there once, and the numbers are right
pub record AreCounted (seen : List (Cell × List ℕ)) (counts : Counts) : Type 0 where
  pub apart : IsDistinct eq-value.it (keys_of seen)
  pub counted : (item : List ℕ) → item_number counts item ≡ times seen item

-- this is now what was seen at the slot
pub record IsNotedAt (slot : Cell) (item : Option (List ℕ)) (old new : List (Cell × List ℕ)) : Type 0 where
  pub apart : IsDistinct eq-value.it (keys_of new)
  pub seen : (other : Cell) → seen_at new other ≡ (if is_cell slot other then item else seen_at old other)
  pub counts : (some : List ℕ) → times new some + one_if (is_item some (seen_at old slot)) ≡ times old some + one_if (is_item some item)

-- Where items were seen, and which slots are free.
use Rattle.std.specs.Prelude.{◌≡◌, ℕ, List, [], ◌∷◌, Option, Some, None, IfSome, IsTrue, if◌then◌else◌}
use Rattle.mig_base.specs.declared.cells.Cell.{Cell}
use Rattle.mig_base.specs.Cells.{is_cell, is_slot}
use Rattle.mig_base.specs.Images.{Image}
use Rattle.mig_base.specs.Naming.{IsName}
use Rattle.mig_calls.specs.Places.{file_of}
use Rattle.mig_calls.specs.Files.{FilesState}
use Rattle.mig_calls.specs.Refusals.{HoldsItem, WhereTold}
use Rattle.mig_store.specs.Grounds.{BothHold, IsElsewhere, IsRestOf}

-- the item that was seen at the slot, where the slot wasn't written since
abbrev pub seen_at : List (Cell × List ℕ) → Cell → Option (List ℕ)
seen_at [] slot = None
seen_at (e ∷ seen) slot = if is_cell slot e.0 then Some e.1 else seen_at seen slot

-- which items were seen at a slot
abbrev pub seen_in : List (Cell × List ℕ) → Cell → List ℕ → Type 0
seen_in seen slot item = seen_at seen slot ≡ Some item

-- where its file is told, the slot holds no item but this one that wasn't seen elsewhere
abbrev pub IsFreeFor : FilesState → List (Cell × List ℕ) → Cell → List ℕ → Type 0
IsFreeFor s seen slot item = (other : List ℕ) → IsName other → ¬ (other ≡ item) → IsTrue (s.told (file_of slot)) → HoldsItem s slot other → IsElsewhere (seen_in seen) other slot

-- it holds none that wasn't seen elsewhere
abbrev pub MayBeEmptied : FilesState → List (Cell × List ℕ) → Cell → Type 0
MayBeEmptied s seen slot = (item : List ℕ) → IsName item → IsTrue (s.told (file_of slot)) → HoldsItem s slot item
    → IsElsewhere (seen_in seen) item slot

-- each item is still where it was seen, where its file is told
pub record AreHeld (s : FilesState) (seen : List (Cell × List ℕ)) : Type 0 where
  pub slots : (slot : Cell) (item : List ℕ) → seen_at seen slot ≡ Some item → IsTrue (is_slot slot)
  pub holds : (slot : Cell) (item : List ℕ) → seen_at seen slot ≡ Some item → WhereTold s slot (HoldsItem s slot item)

-- another slot holds the item, where its file is told
abbrev pub IsHeldElsewhere : FilesState → List ℕ → Cell → Type 0
IsHeldElsewhere s item slot = (other : Cell) × IsTrue (is_slot other) × ¬ (other ≡ slot) × WhereTold s other (HoldsItem s other item)

-- no item but this one is lost where the slot is written over
abbrev pub LosesNoneBut : FilesState → Cell → List ℕ → Type 0
LosesNoneBut s slot item = (other : List ℕ) → IsName other → ¬ (other ≡ item) → WhereTold s slot (HoldsItem s slot other → IsHeldElsewhere s other slot)

-- no item is lost where it is emptied
abbrev pub LosesNone : FilesState → Cell → Type 0
LosesNone s slot = (item : List ℕ) → IsName item → WhereTold s slot (HoldsItem s slot item → IsHeldElsewhere s item slot)

-- what was seen at any other slot is known still, and no more
abbrev pub KeepsSeen : List (Cell × List ℕ) → List (Cell × List ℕ) → Cell → Type 0
KeepsSeen old new slot = (other : Cell) → ¬ (other ≡ slot) → seen_at new other ≡ seen_at old other

-- so is what was seen at any slot but these two
abbrev pub KeepsSeenBut : List (Cell × List ℕ) → List (Cell × List ℕ) → Cell → Cell → Type 0
KeepsSeenBut old new from to = (other : Cell) → ¬ (other ≡ from) → ¬ (other ≡ to) → seen_at new other ≡ seen_at old other

-- the first slot holds the item, and no other is lost where the second is written over
pub record MayCopy (s : FilesState) (from to : Cell) (item : List ℕ) : Type 0 where
  pub name : IsName item
  pub held : WhereTold s from (HoldsItem s from item)
  pub free : LosesNoneBut s to item

-- where both are told, what the first still holds of an item that the second holds stands there too
abbrev pub HoldsCopy : Image → Cell → Cell → Type 0
HoldsCopy image from to = IfSome (image from) (λ left. IfSome (image to) (λ copied. (item : List ℕ) → BothHold left copied item → IsRestOf left copied))

-- Images on which a migration may begin, and what speaks against it.
use Rattle.std.specs.Prelude.{◌≡◌, ◌<◌, false, ℕ, List, Some, All, Any, Contains, length, slice_get, take}
use Rattle.std.specs.List.{flat_map}
use Rattle.mig_base.specs.declared.ids.Spot.{Spot}
use Rattle.mig_base.specs.declared.ids.Shift.{Shift}
use Rattle.mig_base.specs.InputLists.{InputLists}
use Rattle.mig_base.specs.Images.{Image}
use Rattle.mig_base.specs.Journals.{is_armed}
use Rattle.mig_base.specs.Slots.{IsThere, IsLost, IsUsed, IsUnused}

-- the shifts of all rounds, in the plan's order
abbrev pub shifts_of : List (List Shift) → List Shift
shifts_of plan = flat_map (λ round. round) plan

-- the plan shifts the item
abbrev pub IsShifted : List (List Shift) → ℕ → Type 0
IsShifted plan item = Any (λ s. s.item.0 ≡ item) (shifts_of plan)

-- an item has the shift's target now, or the target is unused
abbrev pub CanTake : InputLists → Image → Shift → Type 0
CanTake input image s = ¬ Contains input.spots s.to → IsUnused input image s.to

-- the gate isn't 1, each item that the plan shifts is where it is listed, and the targets that are free now are unused
pub record IsReady (input : InputLists) (plan : List (List Shift)) (image : Image) : Type 0 where
  pub idle : is_armed image ≡ false
  pub there : (item : ℕ) → item < length input.items → IsShifted plan item → IsThere input image item
  pub unused : All (CanTake input image) (shifts_of plan)

-- the item is the least that the plan shifts and that isn't where it is listed
pub record IsFirstLost (input : InputLists) (plan : List (List Shift)) (image : Image) (item : ℕ) : Type 0 where
  pub in_range : item < length input.items
  pub shifted : IsShifted plan item
  pub lost : IsLost input image item
  pub first : (other : ℕ) → other < item → IsShifted plan other → IsThere input image other

-- the spot is the first target, in the plan's order, that is free now and used
pub record IsFirstUsed (input : InputLists) (plan : List (List Shift)) (image : Image) (spot : Spot) : Type 0 where
  pub place : ℕ
  pub shift : Shift
  pub at : slice_get (shifts_of plan) place ≡ Some shift
  pub target : shift.to ≡ spot
  pub free : ¬ Contains input.spots spot
  pub used : IsUsed input image spot
  pub before : All (CanTake input image) (take place (shifts_of plan))

-- What a filling does, and why nothing is filled.
use Rattle.std.specs.Prelude.{◌≡◌, ◌<◌, Bool, false, ℕ, List, Some, All, IfSome, length, slice_get}
use Rattle.std.specs.List.{AllWithin}
use Rattle.mig_base.specs.declared.ids.Shift.{Shift}
use Rattle.mig_base.specs.declared.ids.Spot.{Spot}
use Rattle.mig_base.specs.Images.{Image, NoCell}
use Rattle.mig_base.specs.InputLists.{InputLists}
use Rattle.mig_base.specs.JobCells.{Tells}
use Rattle.mig_base.specs.Journals.{is_armed}
use Rattle.mig_base.specs.Safety.{Contents, IsSound}
use Rattle.mig_base.specs.Slots.{item_cell, made_slot, IsListedCell, IsUsed, IsUnused}
use Rattle.mig_base.specs.Stores.{State, ChangesOnly}
use Rattle.mig_base.specs.Texts.{item_name}
use Rattle.mig_store.specs.Grounds.{FailedOr}
use Rattle.mig_mover.specs.Moves.{IsLanded, IsRunning, Settles}
use Rattle.mig_mover.specs.declared.faults.MoveFault.{MoveFault}
use Rattle.mig_mover.specs.declared.faults.MoveFault.TheVariants.{Store, Started, Occupied}

-- no plan is carried out, and no slot where an item is listed is used
pub record IsFillable (input : InputLists) (image : Image) : Type 0 where
  pub idle : is_armed image ≡ false
  pub unused : All (IsUnused input image) input.spots

-- so it was once each copy in flight had ended
abbrev pub WasFillable : InputLists → State → Type 0
WasFillable input old = (image : Image) × IsLanded old image × IsFillable input image

-- the spot is the first where an item is listed and the slot is used
pub record IsFirstTaken (input : InputLists) (image : Image) (spot : Spot) : Type 0 where
  pub item : ℕ
  pub listed : slice_get input.spots item ≡ Some spot
  pub used : IsUsed input image spot
  pub before : AllWithin (IsUnused input image) input.spots 0 item

-- the cells show why nothing is filled, by the first cause that holds
abbrev pub IsFillRefusal : InputLists → Image → MoveFault → Type 0
IsFillRefusal input image Started = IsRunning image
IsFillRefusal input image (Occupied disk slot) = (is_armed image ≡ false) × IsFirstTaken input image (record { disk = disk; slot = slot })
IsFillRefusal input image fault = ⊥

-- A store's fault comes only where its count rose, or it refused. A refusal comes by its cause, once each copy in flight has ended, and nothing was written.
abbrev pub IsFillFault : Type 0 → InputLists → State → State → MoveFault → Type 0
IsFillFault Refused input old new Store = FailedOr Refused old new
IsFillFault Refused input old new fault = Settles old new × IsFillRefusal input new.reads fault

-- the same from a store with nothing unsettled and no copy in flight
abbrev pub IsFillFaultOn : Type 0 → InputLists → State → State → MoveFault → Type 0
IsFillFaultOn Refused input old new Store = FailedOr Refused old new
IsFillFaultOn Refused input old new fault = ChangesOnly NoCell old new × IsFillRefusal input old.reads fault

-- the slots that are made for the items stand where the items are listed
abbrev pub HasMade : InputLists → Image → Type 0
HasMade input image = (item : ℕ) → item < length input.items → IfSome (image (item_cell input item)) (λ slot. slot ≡ made_slot (item_name input item))

-- the made slots as the items' contents
abbrev pub made_contents : InputLists → Contents
made_contents input item = made_slot (item_name input item)

-- where listed slots are told, the image is sound whatever plan is begun from it
abbrev pub IsSoundForAll : InputLists → Image → Type 0
IsSoundForAll input image = Tells (IsListedCell input) image → (asked : Bool) (plan : List (List Shift)) (digest : List ℕ) → IsSound asked input plan digest (made_contents input) image

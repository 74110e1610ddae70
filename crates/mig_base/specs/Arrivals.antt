-- How a migration ends: at its target, or early with a layout of its own.
use Rattle.std.specs.Prelude.{◌≡◌, ◌⊎◌, false, ℕ, List, Some, length, Contains}
use Rattle.mig_base.specs.declared.ids.Spot.{Spot}
use Rattle.mig_base.specs.declared.ids.Shift.{Shift}
use Rattle.mig_base.specs.InputLists.{InputLists}
use Rattle.mig_base.specs.Layouts.{At, IsTaken, IsSource, IsTarget}
use Rattle.mig_base.specs.Images.{Image}
use Rattle.mig_base.specs.Slots.{slot_of, zeros}
use Rattle.mig_base.specs.Journals.{is_armed}
use Rattle.mig_base.specs.Safety.{Contents, HasContents, IsSafeAfter}

-- a shift of the plan leaves the spot, or goes to it
abbrev pub IsPlanSpot : List (List Shift) → Spot → Type 0
IsPlanSpot plan spot = (r : ℕ) × (IsSource plan r spot ⊎ IsTarget plan r spot)

-- an item has the spot now, or the plan names it
abbrev pub IsNamed : InputLists → List (List Shift) → Spot → Type 0
IsNamed input plan spot = Contains input.spots spot ⊎ IsPlanSpot plan spot

-- zeros stand at each named spot that is free after k rounds
abbrev pub AreFreeZeros : InputLists → List (List Shift) → Image → ℕ → Type 0
AreFreeZeros input plan image k = (spot : Spot) → IsNamed input plan spot → ¬ IsTaken (At input plan k) spot → image (slot_of input spot) ≡ Some zeros

-- safe after all rounds: the gate is 1, all rounds count, and each item's contents stand at its last spot
abbrev pub IsArrived : InputLists → List (List Shift) → List ℕ → Contents → Image → Type 0
IsArrived input plan digest contents image = IsSafeAfter input plan digest contents image (length plan)

-- and the named spots that are free at the end are zeros
pub record IsReached (input : InputLists) (plan : List (List Shift)) (digest : List ℕ) (contents : Contents) (image : Image) : Type 0 where
  pub arrived : IsArrived input plan digest contents image
  pub zeros : AreFreeZeros input plan image (length plan)

-- the gate isn't 1, each item's contents stand at its spot after k rounds, and the named spots that are free then are zeros
pub record IsHalted (input : InputLists) (plan : List (List Shift)) (contents : Contents) (image : Image) (k : ℕ) : Type 0 where
  pub idle : is_armed image ≡ false
  pub stand : HasContents input (At input plan k) contents image
  pub zeros : AreFreeZeros input plan image k

-- the migration may go on after k rounds, or is halted there
abbrev pub IsHaltSafe : InputLists → List (List Shift) → List ℕ → Contents → Image → ℕ → Type 0
IsHaltSafe input plan digest contents image k = IsSafeAfter input plan digest contents image k ⊎ IsHalted input plan contents image k

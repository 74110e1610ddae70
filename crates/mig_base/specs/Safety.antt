-- What a stop of a migration may leave: images in which no item is lost.
use Rattle.std.specs.Prelude.{◌≡◌, ◌<◌, ◌≤◌, Bool, false, IsTrue, ℕ, suc, List, Some, length}
use Rattle.mig_base.specs.declared.cells.Cell.TheVariants.{Head}
use Rattle.mig_base.specs.declared.ids.Spot.{Spot}
use Rattle.mig_base.specs.declared.ids.Shift.{Shift}
use Rattle.mig_base.specs.InputLists.{InputLists}
use Rattle.mig_base.specs.Layouts.{Layout, At, IsTaken, IsSource, IsTarget}
use Rattle.mig_base.specs.Images.{Image}
use Rattle.mig_base.specs.Slots.{slot_of, zeros}
use Rattle.mig_base.specs.Journals.{is_armed, is_marked, count_of}

-- the bytes of each item's slot
abbrev pub Contents : Type 0
Contents = ℕ → List ℕ

-- each item's contents stand at its spot in the layout
abbrev pub HasContents : InputLists → Layout → Contents → Image → Type 0
HasContents input layout contents image = (item : ℕ) (spot : Spot) → layout item ≡ Some spot → image (slot_of input spot) ≡ Some (contents item)

-- Each item's contents stand at its spot after k rounds. Where the gate is 1, the head is the plan's digest, and no mark past the next is 1.
pub record IsSafeAt (input : InputLists) (plan : List (List Shift)) (digest : List ℕ) (contents : Contents) (image : Image) (k : ℕ) : Type 0 where
  pub stand : HasContents input (At input plan k) contents image
  pub head : IsTrue (is_armed image) → image Head ≡ Some digest
  pub marks : IsTrue (is_armed image) → (n : ℕ) → suc k < n → n ≤ length plan → is_marked image n ≡ false

-- the image is so after as many rounds as count in it
abbrev pub IsSafe : InputLists → List (List Shift) → List ℕ → Contents → Image → Type 0
IsSafe input plan digest contents image = IsSafeAt input plan digest contents image (count_of (length plan) image)

-- The spot was left in one of the rounds before round k, and is free after k rounds. Round k doesn't leave it, and round k + 1 doesn't go to it.
pub record IsVacated (input : InputLists) (plan : List (List Shift)) (k : ℕ) (spot : Spot) : Type 0 where
  pub round : ℕ
  pub earlier : round < k
  pub left : IsSource plan round spot
  pub free : ¬ IsTaken (At input plan k) spot
  pub not_source : ¬ IsSource plan k spot
  pub not_target : ¬ IsTarget plan (suc k) spot

-- zeros stand at each spot that is vacated after k rounds
abbrev pub IsCleanAt : InputLists → List (List Shift) → Image → ℕ → Type 0
IsCleanAt input plan image k = (spot : Spot) → IsVacated input plan k spot → image (slot_of input spot) ≡ Some zeros

-- the gate isn't 1, or the image is so after as many rounds as count in it
abbrev pub IsClean : InputLists → List (List Shift) → Image → Type 0
IsClean input plan image = IsTrue (is_armed image) → IsCleanAt input plan image (count_of (length plan) image)

-- the image is safe, and clean too where that is asked
pub record IsSound (asked : Bool) (input : InputLists) (plan : List (List Shift)) (digest : List ℕ) (contents : Contents)
    (image : Image) : Type 0 where
  pub safe : IsSafe input plan digest contents image
  pub clean : IsTrue asked → IsClean input plan image

-- the gate is 1, k rounds count, and the image is safe after k rounds
pub record IsSafeAfter (input : InputLists) (plan : List (List Shift)) (digest : List ℕ) (contents : Contents) (image : Image) (k : ℕ) : Type 0 where
  pub armed : IsTrue (is_armed image)
  pub count : count_of (length plan) image ≡ k
  pub safe : IsSafeAt input plan digest contents image k

-- and clean too where that is asked
pub record IsSoundAfter (asked : Bool) (input : InputLists) (plan : List (List Shift)) (digest : List ℕ) (contents : Contents) (image : Image) (k : ℕ) : Type 0 where
  pub after : IsSafeAfter input plan digest contents image k
  pub clean : IsTrue asked → IsCleanAt input plan image k

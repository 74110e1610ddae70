-- The tables that a check keeps, and what they say of a layout.
use Rattle.std.specs.Prelude.{◌≡◌, ◌≢◌, ◌⊎◌, ◌↔◌, ℕ, ◌<◌, ◌≤◌, ◌==◌, ◌&&◌, Bool, true, false, Option, IfSome, IsSomeAnd, List, length, fold, slice_get, slice_set, slice_index}
use Rattle.std.specs.List.{list_any}
use Rattle.mig_base.specs.declared.ids.DiskId.{DiskId}
use Rattle.mig_base.specs.declared.ids.Spot.{Spot}
use Rattle.mig_base.specs.declared.ids.Shift.{Shift}
use Rattle.mig_base.specs.declared.inputs.Disk.{Disk}
use Rattle.mig_base.specs.InputLists.{IsSpotOf, disk_at}
use Rattle.mig_base.specs.Layouts.{Layout, IsTaken}
use Rattle.mig_base.specs.Judging.{shift_at}
use Rattle.mig_check.specs.declared.parts.Part.{Part}
use Rattle.mig_check.specs.Parts.{part_limit}

-- the layout of a list of spots, one for each item
abbrev pub layout_of : List Spot → Layout
layout_of spots item = slice_get spots item

-- the list after a shift, and after each shift of a round
abbrev pub after_shift : List Spot → Shift → List Spot
after_shift spots s = slice_set spots s.item.0 s.to

abbrev pub after_round : List Spot → List Shift → List Spot
after_round spots round = fold after_shift spots round

-- Sets of spots

-- a set of spots, by a test
abbrev pub SpotSet : Type 0
SpotSet = Spot → Bool

-- whether both are the same spot
abbrev pub same_spot : Spot → Spot → Bool
same_spot s t = (s.disk.0 == t.disk.0) && (s.slot == t.slot)

-- the set has exactly the spots of the items
abbrev pub IsTakenSet : SpotSet → Layout → Type 0
IsTakenSet taken layout = (t : Spot) → (taken t ≡ true) ↔ IsTaken layout t

-- a shift of the round leaves the spot
abbrev pub is_source : List Shift → Spot → Bool
is_source round t = list_any (λ s. same_spot s.from t) round

-- the target of the shift at this place is no slot of its disk, or is in the set, or is that of an earlier shift
abbrev pub LacksSlotIn : List Disk → SpotSet → List Shift → ℕ → Type 0
LacksSlotIn disks taken round k = (¬ IsSpotOf disks (shift_at round k).to) ⊎ (taken (shift_at round k).to ≡ true) ⊎ ((j : ℕ) × (j < k) × ((shift_at round j).to ≡ (shift_at round k).to))

-- the targets of the first i shifts are slots that were free, no two the same, and are taken besides what was
pub record HaveRoom (disks : List Disk) (taken : SpotSet) (round : List Shift) (i : ℕ) (after : SpotSet) : Type 0 where
  pub slots : (k : ℕ) → k < i → IsSpotOf disks (shift_at round k).to
  pub free : (k : ℕ) → k < i → taken (shift_at round k).to ≡ false
  pub apart : (j k : ℕ) → j < k → k < i → (shift_at round j).to ≢ (shift_at round k).to
  pub old : (t : Spot) → taken t ≡ true → after t ≡ true
  pub targets : (k : ℕ) → k < i → after (shift_at round k).to ≡ true
  pub only : (t : Spot) → after t ≡ true → (taken t ≡ true) ⊎ ((j : ℕ) × (j < i) × ((shift_at round j).to ≡ t))

-- Counts of ends

-- so many ends as are counted at the disk keep its limit
abbrev pub KeepsPartLimit : Part → List Disk → List ℕ → ℕ → Type 0
KeepsPartLimit part disks counts v = slice_index counts v ≤ part_limit part (disk_at disks v).limits

-- the disk keeps its limit, or the disk that was found isn't behind it
abbrev pub IsCovered : Part → List Disk → List ℕ → Option DiskId → ℕ → Type 0
IsCovered part disks counts found v = KeepsPartLimit part disks counts v ⊎ IsSomeAnd found (λ d. d.0 ≤ v)

-- a disk that was found is there and has more ends than its limit
abbrev pub IsFoundOver : Part → List Disk → List ℕ → Option DiskId → Type 0
IsFoundOver part disks counts found = IfSome found (λ d. (d.0 < length disks) × (part_limit part (disk_at disks d.0).limits < slice_index counts d.0))

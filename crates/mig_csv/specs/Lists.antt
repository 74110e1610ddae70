-- What the steps after the three files say.
use Rattle.std.specs.Prelude.{◌≡◌, ◌+◌, ◌==◌, ◌&&◌, ◌<◌, ⊤, ℕ, if◌then◌else◌, not, List, Option, Some, None, All, Contains, IsSomeAnd, length, map, slice_get, slice_index_or}
use Rattle.mig_base.specs.InputLists.{InputLists}
use Rattle.mig_base.specs.Targets.{HasRoom, incoming, present}
use Rattle.mig_base.specs.Rows.{Row, first, second}
use Rattle.mig_base.specs.declared.faults.FileKind.TheVariants as file
use Rattle.mig_base.specs.declared.faults.Why.TheVariants as why
use Rattle.mig_base.specs.declared.ids.DiskId.{DiskId}
use Rattle.mig_base.specs.declared.inputs.Disk.{Disk}
use Rattle.mig_csv.specs.declared.errors.InputError.{InputError}
use Rattle.mig_csv.specs.declared.errors.InputError.TheVariants.{Refused, Memory}

-- the item that a row of the next file names has the disk that the row names
abbrev pub IsNextOf : List Disk → List (List ℕ) → List (Option DiskId) → Row → Type 0
IsNextOf disks items next r = (k : ℕ) × (v : DiskId) × (slice_get items k ≡ Some (first r)) × (slice_get next k ≡ Some (Some v)) × IsSomeAnd (slice_get disks v.0) (λ d. d.name ≡ second r)

-- the next disks of the items: those that the rows name, and none of an item that no row names
pub record AreNextOf (disks : List Disk) (items : List (List ℕ)) (rows : List Row) (next : List (Option DiskId)) : Type 0 where
  pub len : length next ≡ length items
  pub named : All (IsNextOf disks items next) rows
  pub listed : (k : ℕ) (n : List ℕ) (v : DiskId) → slice_get items k ≡ Some n → slice_get next k ≡ Some (Some v) → Contains (map first rows) n
  pub missing : (k : ℕ) (n : List ℕ) → slice_get items k ≡ Some n → slice_get next k ≡ Some None → ¬ (Contains (map first rows) n)
  pub on_disks : (k : ℕ) (v : DiskId) → slice_get next k ≡ Some (Some v) → v.0 < length disks

-- the names of so many rows, which gave these next disks to the items: those of the items that have one, and no others
pub record AreSeen (items : List (List ℕ)) (next : List (Option DiskId)) (rows : ℕ) (names : List (List ℕ)) : Type 0 where
  pub count : length names ≡ rows
  pub listed : (k : ℕ) (n : List ℕ) (v : DiskId) → slice_get items k ≡ Some n → slice_get next k ≡ Some (Some v) → Contains names n
  pub missing : (k : ℕ) (n : List ℕ) → slice_get items k ≡ Some n → slice_get next k ≡ Some None → ¬ (Contains names n)
  pub there : (n : List ℕ) → Contains names n → Contains items n

-- the first item with no next disk is refused
abbrev pub RefusesMissing : List (Option DiskId) → InputError → Type 0
RefusesMissing next (Refused f n why.NotInNext) = (f ≡ file.Now) × (k : ℕ) × (n ≡ k + 1) × (slice_get next k ≡ Some None) × ((j : ℕ) → j < k → (v : DiskId) × (slice_get next j ≡ Some (Some v)))
RefusesMissing next (Refused f n w) = ⊥
RefusesMissing next Memory = ⊤

-- the slots that an item needs of a disk: one where the item is on it, and one where the item is relocated and comes to it
abbrev pub slots_for : DiskId → DiskId → ℕ → ℕ
slots_for on to v = (if on.0 == v then 1 else 0) + (if not (on.0 == to.0) && (to.0 == v) then 1 else 0)

-- the slots that each disk needs for the items on it and the relocated items that come to it
pub record AreNeeds (i : InputLists) (needs : List ℕ) : Type 0 where
  pub len : length needs ≡ length i.disks
  pub each : (v : ℕ) → slice_index_or needs v 0 ≡ present i v + incoming i v

-- the first disk that lacks room is refused
abbrev pub RefusesRoom : InputLists → InputError → Type 0
RefusesRoom i (Refused f n (why.NoRoom name needs slots)) = (f ≡ file.Disks) × (k : ℕ) × (d : Disk) × (n ≡ k + 1) × (slice_get i.disks k ≡ Some d) × (name ≡ d.name) × (needs ≡ present i k + incoming i k) × (slots ≡ d.slots) × (slots < needs)
    × ((j : ℕ) → j < k → HasRoom i j)
RefusesRoom i (Refused f n w) = ⊥
RefusesRoom i Memory = ⊤

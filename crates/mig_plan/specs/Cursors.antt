-- The spots that the first relocated items are given, and how far each disk is taken by them.
use Rattle.std.specs.Prelude.{◌≡◌, ℕ, ◌++◌, ◌<◌, ◌≤◌, List, length, Contains, slice_index, take, filter}
use Rattle.std.specs.List.{range_with_len}
use Rattle.mig_base.specs.declared.ids.Spot.{Spot}
use Rattle.mig_base.specs.InputLists.{InputLists}
use Rattle.mig_base.specs.Transfers.{is_relocated, target}
use Rattle.mig_base.specs.Targets.{IsLowestFree}
use Rattle.mig_base.specs.Planned.{move_at, target_at}

-- slot s of disk v
abbrev pub spot : ℕ → ℕ → Spot
spot v s = record { disk = record { 0 = v }; slot = s }

-- the lowest slot of the disk, from `from` on, at which none of these spots is
pub record IsFreeFrom (taken : List Spot) (v from slot : ℕ) : Type 0 where
  pub from_on : from ≤ slot
  pub free : ¬ Contains taken (spot v slot)
  pub lowest : (s : ℕ) → from ≤ s → s < slot → Contains taken (spot v s)

-- the relocated items among the first n
abbrev pub first_moves : InputLists → ℕ → List ℕ
first_moves input n = filter (is_relocated input) (range_with_len 0 n)

-- The spots that these are given. Below a disk's cursor every slot is taken, and none of these spots is above it
pub record AreFirstTargets (input : InputLists) (n : ℕ) (targets : List Spot) (cursors : List ℕ) : Type 0 where
  pub len : length targets ≡ length (first_moves input n)
  pub each : (move : ℕ) → move < length targets → IsLowestFree (input.spots ++ take move targets) (target input (move_at input move)) (target_at targets move)
  pub cursors_len : length cursors ≡ length input.disks
  pub passed : (v s : ℕ) → v < length input.disks → s < slice_index cursors v → Contains (input.spots ++ targets) (spot v s)
  pub below : (move : ℕ) → move < length targets → (target_at targets move).slot < slice_index cursors (target_at targets move).disk.0

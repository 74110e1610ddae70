-- What a file lists.
use Rattle.std.specs.Prelude.{◌≡◌, ◌≤◌, ℕ, All, List, Option, length, map}
use Rattle.std.specs.List.{AllZip}
use Rattle.mig_base.specs.declared.faults.Why.{Why}
use Rattle.mig_base.specs.declared.ids.DiskId.{DiskId}
use Rattle.mig_base.specs.declared.inputs.Disk.{Disk}
use Rattle.mig_base.specs.declared.limits.TheConstants.{MAX_DISKS, MAX_ITEMS}
use Rattle.mig_base.specs.InputLists.{IsSpotOf}
use Rattle.mig_base.specs.Refusals.{IsSpotNamed}
use Rattle.mig_base.specs.Rows.{disks_of, first, rows_of}
use Rattle.mig_csv.specs.declared.disks.DiskList.{DiskList}
use Rattle.mig_csv.specs.declared.items.PlacedItems.{PlacedItems}
use Rattle.mig_csv.specs.Lists.{AreNextOf}
use Rattle.mig_csv.specs.Refusals.{DisksFault, NextFault, NowFault}

-- the list has the disks of the file, and nothing is wrong with the file
pub record ListsDisks (bytes : List ℕ) (r : DiskList) : Type 0 where
  pub value : r.disks.items ≡ disks_of bytes
  pub few : length r.disks.items ≤ MAX_DISKS
  pub names : r.names ≡ map (λ d. d.name) r.disks.items
  pub sound : (n : ℕ) (w : Why) → ¬ (DisksFault bytes n w)

-- the layout has the items of the file, each at the spot that its row names, and nothing is wrong with the file
pub record ListsItems (bytes : List ℕ) (disks : List Disk) (r : PlacedItems) : Type 0 where
  pub items : r.items.items ≡ map first (rows_of bytes)
  pub few : length r.items.items ≤ MAX_ITEMS
  pub names : r.items.items ≡ r.names
  pub spots : AllZip (IsSpotNamed disks) (rows_of bytes) r.spots.items
  pub on_disks : All (IsSpotOf disks) r.spots.items
  pub sound : (n : ℕ) (w : Why) → ¬ (NowFault disks bytes n w)

-- the items of the now file have the next disks that the file gives, and nothing is wrong with the file
pub record ListsNext (disks : List Disk) (present : List (List ℕ)) (bytes : List ℕ) (next : List (Option DiskId)) : Type 0 where
  pub value : AreNextOf disks present (rows_of bytes) next
  pub sound : (n : ℕ) (w : Why) → ¬ (NextFault disks present bytes n w)

-- Tables of the names of an input.
use Rattle.std.specs.Prelude.{◌≡◌, ℕ, List, map}
use Rattle.mig_base.specs.declared.inputs.Disk.{Disk}
use Rattle.mig_base.specs.InputLists.{InputLists, IsInput}

-- the names of disks, in their order
abbrev pub listed_names : List Disk → List (List ℕ)
listed_names disks = map (λ (d : Disk). d.name) disks

-- the tables have the names of the input's disks and items
pub record IsFinderOf (input : InputLists) (disks items : List (List ℕ)) : Type 0 where
  pub valid : IsInput input
  pub disk_names : disks ≡ listed_names input.disks
  pub item_names : items ≡ input.items

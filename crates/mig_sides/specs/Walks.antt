-- Sides in a list, and closed walks of odd length, which leave none.
use Rattle.std.specs.Prelude.{◌≡◌, ◌⊎◌, ℕ, ◌+◌, ◌-◌, ◌<◌, ◌%◌, Bool, false, List, Contains, length, slice_index_or}
use Rattle.mig_base.specs.declared.ids.DiskId.{DiskId}
use Rattle.mig_base.specs.Transfers.{Transfers, Transfer}
use Rattle.mig_base.specs.Sides.{IsTwoSided}
use Rattle.mig_sides.specs.declared.two_sides.SidesError.{SidesError}
use Rattle.mig_sides.specs.declared.two_sides.SidesError.TheVariants.{OddWalk, Memory}

-- the side of a disk
abbrev pub side_of : List Bool → ℕ → Bool
side_of sides v = slice_index_or sides v false

-- an edge joins the two disks
abbrev pub IsJoined : List Transfer → ℕ → ℕ → Type 0
IsJoined transfers v w = Contains transfers (record { leaves = v; reaches = w }) ⊎ Contains transfers (record { leaves = w; reaches = v })

-- the disk at a place
abbrev pub disk_on : List DiskId → ℕ → ℕ
disk_on disks k = (slice_index_or disks k (record { 0 = 0 })).0

-- an odd number of disks; an edge joins each with the next, and the last with the first
pub record IsOddWalk (transfers : List Transfer) (walk : List DiskId) : Type 0 where
  pub odd : length walk % 2 ≡ 1
  pub steps : (k : ℕ) → k + 1 < length walk → IsJoined transfers (disk_on walk k) (disk_on walk (k + 1))
  pub closed : IsJoined transfers (disk_on walk (length walk - 1)) (disk_on walk 0)

-- a walk is such a one, and the graph has no two sides; want of memory says nothing
abbrev pub ShowsNone : Transfers → SidesError → Type 0
ShowsNone graph (OddWalk walk) = IsOddWalk graph.transfers walk × ¬ IsTwoSided graph
ShowsNone graph Memory = Unit {0}

-- Loads in lists, by sides, and what is told from them.
use Rattle.std.specs.Prelude.{◌≡◌, ◌≢◌, ℕ, ◌+◌, ◌<◌, ◌≤◌, ◌%◌, max, List, length, map, slice_index, All}
use Rattle.std.specs.List.{range_with_len}
use Rattle.mig_base.specs.declared.certs.Side.{Side}
use Rattle.mig_base.specs.declared.certs.Side.TheVariants.{Outgoing, Incoming}
use Rattle.mig_base.specs.declared.inputs.Disk.{Disk}
use Rattle.mig_base.specs.declared.inputs.Limits.{Limits}
use Rattle.mig_base.specs.declared.inputs.Limits.TheVariants.{Joint, Split}
use Rattle.mig_base.specs.declared.limits.TheConstants.{MAX_ITEMS}
use Rattle.mig_base.specs.InputLists.{disk_at}
use Rattle.mig_base.specs.Transfers.{Transfer, side_load, div_ceil}
use Rattle.mig_base.specs.Bounding.{greatest}

-- the disk at which a transfer counts on a side: the one that it leaves, or the one that it reaches
abbrev pub end_on : Side → Transfer → ℕ
end_on Outgoing t = t.leaves
end_on Incoming t = t.reaches

-- the load of each disk on a side
pub record AreLoads (side : Side) (disks : ℕ) (transfers : List Transfer) (loads : List ℕ) : Type 0 where
  pub len : length loads ≡ disks
  pub counted : (v : ℕ) → v < disks → slice_index loads v ≡ side_load side v transfers

-- a load for each disk, none of which is greater than there are items
pub record AreFewLoads (disks : List Disk) (loads : List ℕ) : Type 0 where
  pub len : length loads ≡ length disks
  pub most : All (λ n. n ≤ MAX_ITEMS) loads

-- how many rounds a disk with these limits needs for so many transfers that leave it and so many that reach it
abbrev pub rounds_by : Limits → ℕ → ℕ → ℕ
rounds_by (Joint limit) leaving reaching = div_ceil (leaving + reaching) limit
rounds_by (Split outgoing incoming) leaving reaching = max (div_ceil leaving outgoing) (div_ceil reaching incoming)

-- the greatest of these numbers of the first n disks
abbrev pub quotient_by : List Disk → List ℕ → List ℕ → ℕ → ℕ
quotient_by disks outgoing incoming n = greatest (map (λ v. rounds_by (disk_at disks v).limits (slice_index outgoing v) (slice_index incoming v)) (range_with_len 0 n))

-- a limit is joint, and even where the disk has a load
abbrev pub IsEvenBy : Limits → ℕ → Type 0
IsEvenBy (Joint limit) load = load ≢ 0 → limit % 2 ≡ 0
IsEvenBy (Split outgoing incoming) load = ⊥

-- that of each disk
abbrev pub EvenBy : List Disk → List ℕ → List ℕ → Type 0
EvenBy disks outgoing incoming = (v : ℕ) → v < length disks → IsEvenBy (disk_at disks v).limits (slice_index outgoing v + slice_index incoming v)

-- Counting by parts of the ends at a disk: all, as a joint limit counts them, or one side's.
use Rattle.std.specs.Prelude.{◌≡◌, ◌⊎◌, ℕ, ◌<◌, ◌≤◌, Bool, List, None, Option, Some, count_by, length, map}
use Rattle.std.specs.List.{range_with_len}
use Rattle.mig_base.specs.declared.certs.Side.TheVariants.{Outgoing, Incoming}
use Rattle.mig_base.specs.declared.ids.DiskId.{DiskId}
use Rattle.mig_base.specs.declared.ids.Shift.{Shift}
use Rattle.mig_base.specs.declared.inputs.Disk.{Disk}
use Rattle.mig_base.specs.declared.inputs.Limits.{Limits}
use Rattle.mig_base.specs.Bounding.{greatest}
use Rattle.mig_base.specs.InputLists.{disk_at, most_ends}
use Rattle.mig_base.specs.Running.{transfer_of}
use Rattle.mig_base.specs.Transfers.{Transfers, Transfer, div_ceil, passes, side_limit, touches}
use Rattle.mig_check.specs.declared.parts.Part.{Part}
use Rattle.mig_check.specs.declared.parts.Part.TheVariants.{Both, Leaving, Reaching}

-- the transfer counts at the disk
abbrev pub counts_at : Part → ℕ → Transfer → Bool
counts_at Both = touches
counts_at Leaving = passes Outgoing
counts_at Reaching = passes Incoming

-- how many transfers count at it
abbrev pub part_load : Part → ℕ → List Transfer → ℕ
part_load part v transfers = count_by (counts_at part v) transfers

-- how many may in one round
abbrev pub part_limit : Part → Limits → ℕ
part_limit Both limits = most_ends limits
part_limit Leaving limits = side_limit Outgoing limits
part_limit Reaching limits = side_limit Incoming limits

-- how many rounds the disk needs for them, and the greatest of these numbers
abbrev pub part_value : Part → Transfers → ℕ → ℕ
part_value part graph v = div_ceil (part_load part v graph.transfers) (part_limit part (disk_at graph.disks v).limits)

abbrev pub part_quotient : Part → Transfers → ℕ
part_quotient part graph = greatest (map (part_value part graph) (range_with_len 0 (length graph.disks)))

-- the transfers keep this part's limit of each disk
abbrev pub KeepsPart : Part → List Disk → List Transfer → Type 0
KeepsPart part disks transfers = (v : ℕ) → v < length disks → part_load part v transfers ≤ part_limit part (disk_at disks v).limits

-- so many shifts of the round count at the disk, more than its limit
abbrev pub IsPartOver : Part → List Disk → List Shift → ℕ → ℕ → Type 0
IsPartOver part disks round v count = (part_limit part (disk_at disks v).limits < count) × (count ≡ part_load part v (map transfer_of round))

-- the disk is there, is over by so many, and is the least that is over
abbrev pub IsLeastOver : Part → List Disk → List Shift → ℕ → ℕ → Type 0
IsLeastOver part disks round v count = (v < length disks) × IsPartOver part disks round v count × ((w c : ℕ) → w < v → ¬ IsPartOver part disks round w c)

-- the disk that was found is the lesser of two, the first where both are the same, and none where there is none
abbrev pub IsLesserOf : Option (DiskId × ℕ) → Option (DiskId × ℕ) → Option (DiskId × ℕ) → Type 0
IsLesserOf None None found = found ≡ None
IsLesserOf (Some a) None found = found ≡ Some a
IsLesserOf None (Some b) found = found ≡ Some b
IsLesserOf (Some a) (Some b) found = ((b.0.0 < a.0.0) × (found ≡ Some b)) ⊎ ((a.0.0 ≤ b.0.0) × (found ≡ Some a))

-- The ends of a transfer graph's edges as pairs of disks.
use Rattle.std.specs.Prelude.{◌≡◌, ℕ, ◌<◌, List, length, slice_index_or}
use Rattle.mig_base.specs.declared.ids.DiskId.{DiskId}
use Rattle.mig_base.specs.Transfers.{Transfer}
use Rattle.mig_base.specs.Directions.{transfer_at}

-- the transfer between two disks
abbrev pub pair_transfer : DiskId × DiskId → Transfer
pair_transfer p = record { leaves = p.0.0; reaches = p.1.0 }

-- the pair at a place
abbrev pub pair_at : List (DiskId × DiskId) → ℕ → DiskId × DiskId
pair_at ends e = slice_index_or ends e (record { 0 = 0 }, record { 0 = 0 })

-- the pairs are the ends of the transfers
pub record ArePairs (transfers : List Transfer) (ends : List (DiskId × DiskId)) : Type 0 where
  pub len : length ends ≡ length transfers
  pub known : (e : ℕ) → e < length ends → pair_transfer (pair_at ends e) ≡ transfer_at transfers e

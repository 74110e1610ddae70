-- What every transfer graph keeps.
use Rattle.std.specs.Prelude.{◌≡◌, ◌≢◌, ◌<◌, ◌≤◌, length, All}
use Rattle.mig_base.specs.declared.limits.TheConstants.{MAX_DISKS, MAX_ITEMS}
use Rattle.mig_base.specs.InputLists.{IsDiskInRange, is_duplex, is_split}
use Rattle.mig_base.specs.Transfers.{Transfers}

-- its numbers fit their types, limits are of one kind, and each edge joins two different disks that are there
pub record IsGraph (graph : Transfers) : Type 0 where
  pub disks_most : length graph.disks ≤ MAX_DISKS
  pub disks_valid : All IsDiskInRange graph.disks
  pub one_kind : All (λ disk. is_split disk.limits ≡ is_duplex graph.disks) graph.disks
  pub edges_most : length graph.transfers ≤ MAX_ITEMS
  pub items_len : length graph.items ≡ length graph.transfers
  pub leaves_there : All (λ t. t.leaves < length graph.disks) graph.transfers
  pub reaches_there : All (λ t. t.reaches < length graph.disks) graph.transfers
  pub apart : All (λ t. t.leaves ≢ t.reaches) graph.transfers

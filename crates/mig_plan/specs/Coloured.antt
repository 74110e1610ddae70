-- Directions that share out joint limits, and boards whose nodes are copies of disks.
use Rattle.std.specs.Prelude.{◌≡◌, ℕ, ◌+◌, ◌<◌, ◌≤◌, Bool, List, length}
use Rattle.mig_base.specs.declared.ids.DiskId.{DiskId}
use Rattle.mig_base.specs.Bounding.{limit}
use Rattle.mig_base.specs.Directions.{in_of, is_forward, out_of, transfer_at}
use Rattle.mig_base.specs.Transfers.{Transfers, Transfer, div_ceil}
use Rattle.mig_board.specs.Colouring.{Colouring, blank}
use Rattle.mig_split.specs.Copies.{AreShares}

-- by these directions each disk's limit covers its copies on two sides, of at most q ends each
abbrev pub SidesFit : Transfers → ℕ → List Bool → Type 0
SidesFit graph q directions = (v : ℕ) → v < length graph.disks → div_ceil (out_of graph.transfers directions v) q + div_ceil (in_of graph.transfers directions v) q ≤ limit graph v

-- each edge leads away from the one side of the disks
abbrev pub LeadsAcross : (ℕ → Bool) → List Transfer → List Bool → Type 0
LeadsAcross side transfers directions = (k : ℕ) → k < length transfers → is_forward directions k ≡ side (transfer_at transfers k).leaves

-- nothing is coloured, and the nodes are copies of disks with these homes, at most as many of a disk as its limit
pub record IsDealtBoard (graph : Transfers) (colours : ℕ) (g : Colouring) : Type 0 where
  pub directions : List Bool
  pub share : ℕ
  pub homes : List DiskId
  pub copies : AreShares graph directions share g.ends homes
  pub made : g ≡ blank (length homes) colours g.ends

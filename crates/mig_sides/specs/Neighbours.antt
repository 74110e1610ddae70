-- The neighbours of each disk, in lists.
use Rattle.std.specs.Prelude.{◌≡◌, ℕ, ◌<◌, List, All, Contains, length, slice_index_or}
use Rattle.std.specs.declared.alloc.Global.{Global}
use Rattle.std.specs.declared.vec.Vec.{Vec}
use Rattle.mig_base.specs.declared.ids.DiskId.{DiskId}
use Rattle.mig_base.specs.Transfers.{Transfers, Transfer}
use Rattle.mig_sides.specs.Walks.{IsJoined}

-- the list of a disk
abbrev pub list_at : List (Vec DiskId Global) → ℕ → Vec DiskId Global → List DiskId
list_at near v d = (slice_index_or near v d).items

-- each list has the disks with which edges join its disk, and no others
pub record AreNear (transfers : List Transfer) (near : List (Vec DiskId Global)) : Type 0 where
  pub joined : (v : ℕ) (d : Vec DiskId Global) → v < length near → All (λ w. IsJoined transfers v w.0) (list_at near v d)
  pub all : (v w : ℕ) (d : Vec DiskId Global) → v < length near → IsJoined transfers v w → Contains (list_at near v d) (record { 0 = w })

-- a list for each disk
pub record AreNeighbours (graph : Transfers) (near : List (Vec DiskId Global)) : Type 0 where
  pub len : length near ≡ length graph.disks
  pub each : AreNear graph.transfers near

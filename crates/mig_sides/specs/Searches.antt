-- How far searches have come.
use Rattle.std.specs.Prelude.{◌≡◌, ◌≢◌, ◌⊎◌, ℕ, ◌+◌, ◌<◌, ◌≤◌, List, Option, Some, IsSome, length}
use Rattle.mig_base.specs.declared.ids.DiskId.{DiskId}
use Rattle.mig_base.specs.Transfers.{Transfers, Transfer}
use Rattle.mig_sides.specs.declared.trees.Node.{Node}
use Rattle.mig_sides.specs.Trees.{node_at, unreached, AreApart, AreTogether, IsRooted}
use Rattle.mig_sides.specs.Walks.{disk_on, IsJoined}

-- each disk with which an edge joins this one is on the other side
abbrev pub IsExplored : List Transfer → List (Option Node) → ℕ → Type 0
IsExplored transfers nodes v = (w : ℕ) → IsJoined transfers v w → AreApart nodes v w

-- the disks that were reached are trees, whose branches are edges, of few ranks
pub record AreTrees (graph : Transfers) (nodes : List (Option Node)) : Type 0 where
  pub len : length nodes ≡ length graph.disks
  pub rooted : IsRooted nodes
  pub branches : (v : ℕ) (node : Node) → node_at nodes v ≡ Some node → node.rank ≢ 0 → IsJoined graph.transfers v node.parent.0
  pub low : (v : ℕ) (node : Node) → node_at nodes v ≡ Some node → node.rank + unreached nodes < length nodes

-- nothing is left to be done at any of them
pub record AreExplored (graph : Transfers) (nodes : List (Option Node)) : Type 0 where
  pub trees : AreTrees graph nodes
  pub done : (v : ℕ) (node : Node) → node_at nodes v ≡ Some node → IsExplored graph.transfers nodes v

-- the disk is at one of the places of the queue from this one on
abbrev pub IsQueued : List DiskId → ℕ → ℕ → Type 0
IsQueued queue next v = (k : ℕ) × (next ≤ k) × (k < length queue) × (disk_on queue k ≡ v)

-- what is left to be done is at disks that are queued, from this place on, and were reached from this root
pub record IsGrowing (graph : Transfers) (root : ℕ) (nodes : List (Option Node)) (queue : List DiskId) (next : ℕ) : Type 0 where
  pub trees : AreTrees graph nodes
  pub waiting : (k : ℕ) → next ≤ k → k < length queue → (node : Node) × (node_at nodes (disk_on queue k) ≡ Some node) × (node.root.0 ≡ root)
  pub done : (v : ℕ) (node : Node) → node_at nodes v ≡ Some node → IsExplored graph.transfers nodes v ⊎ IsQueued queue next v

-- what was reached stays so
abbrev pub StayReached : List (Option Node) → List (Option Node) → Type 0
StayReached old new = (v : ℕ) (node : Node) → node_at old v ≡ Some node → node_at new v ≡ Some node

-- after a search from this root
pub record HasGrown (graph : Transfers) (old new : List (Option Node)) (root : ℕ) : Type 0 where
  pub settled : AreExplored graph new
  pub kept : StayReached old new
  pub reached : IsSome (node_at new root)

-- all disks were reached, and nothing is left to be done
pub record AreAllReached (graph : Transfers) (nodes : List (Option Node)) : Type 0 where
  pub settled : AreExplored graph nodes
  pub reached : (v : ℕ) → v < length graph.disks → IsSome (node_at nodes v)

-- an edge joins two disks of one tree that are on one side
pub record AreOnOneSide (graph : Transfers) (nodes : List (Option Node)) (v w : ℕ) : Type 0 where
  pub trees : AreTrees graph nodes
  pub together : AreTogether nodes v w
  pub joined : IsJoined graph.transfers v w

-- What a search reaches from one disk.
use Rattle.std.specs.Prelude.{◌≡◌, ◌≢◌, ℕ, ◌+◌, ◌<◌, ◌≤◌, ◌%◌, List, Option, Some, None, Contains, IsSome, length}
use Rattle.mig_base.specs.declared.ids.DiskId.{DiskId}
use Rattle.mig_sides.specs.declared.trees.Node.{Node}
use Rattle.mig_sides.specs.Trees.{node_at, unreached}
use Rattle.mig_sides.specs.Walks.{disk_on}

-- how a disk is reached from one that was reached
abbrev pub child_of : DiskId → Node → Node
child_of disk node = record { parent = disk; root = node.root; rank = node.rank + 1 }

-- a neighbour that was reached now and is queued
pub record IsNewlyReached (disk : DiskId) (node : Node) (near : List DiskId) (was queue : List DiskId) (v : ℕ) (found : Node) : Type 0 where
  pub child : found ≡ child_of disk node
  pub beside : Contains near (record { 0 = v })
  pub place : ℕ
  pub after : length was ≤ place
  pub within : place < length queue
  pub queued : disk_on queue place ≡ v

-- what was reached stays so; the disks that were reached now are neighbours, and these are queued
pub record Reaches (disk : DiskId) (node : Node) (near : List DiskId) (old new : List (Option Node)) (was queue : List DiskId) : Type 0 where
  pub len : length new ≡ length old
  pub kept : (v : ℕ) (found : Node) → node_at old v ≡ Some found → node_at new v ≡ Some found
  pub fresh : (v : ℕ) (found : Node) → node_at old v ≡ None → node_at new v ≡ Some found → IsNewlyReached disk node near was queue v found
  pub longer : length was ≤ length queue
  pub before : (k : ℕ) → k < length was → disk_on queue k ≡ disk_on was k
  pub added : (k : ℕ) → length was ≤ k → k < length queue → node_at new (disk_on queue k) ≡ Some (child_of disk node)
  pub count : unreached new + length queue ≡ unreached old + length was

-- each neighbour was reached
abbrev pub AreAllReachedOf : List DiskId → List (Option Node) → Type 0
AreAllReachedOf near nodes = (k : ℕ) → k < length near → IsSome (node_at nodes (disk_on near k))

-- the disk was reached on the other side than this one
abbrev pub IsApartFrom : Node → List (Option Node) → ℕ → Type 0
IsApartFrom node nodes w = (found : Node) × (node_at nodes w ≡ Some found) × (node.rank % 2 ≢ found.rank % 2)

-- all neighbours were
abbrev pub AreAllApart : Node → List DiskId → List (Option Node) → Type 0
AreAllApart node near nodes = (k : ℕ) → k < length near → IsApartFrom node nodes (disk_on near k)

-- the disk is a neighbour that was reached on the same side
pub record IsMet (node : Node) (near : List DiskId) (nodes : List (Option Node)) (w : DiskId) : Type 0 where
  pub beside : Contains near w
  pub found : Node
  pub found_is : node_at nodes w.0 ≡ Some found
  pub same_side : node.rank % 2 ≡ found.rank % 2

-- Ways from disks up to where searches began, and walks up and down.
use Rattle.std.specs.Prelude.{◌≡◌, ◌⊎◌, ℕ, ◌+◌, ◌-◌, ◌<◌, ◌%◌, List, Option, Some, length}
use Rattle.mig_base.specs.declared.ids.DiskId.{DiskId}
use Rattle.mig_sides.specs.declared.trees.Node.{Node}
use Rattle.mig_sides.specs.Trees.{node_at, IsParent}
use Rattle.mig_sides.specs.Walks.{disk_on}

-- each disk's parent is next
abbrev pub GoesUp : List (Option Node) → List DiskId → Type 0
GoesUp nodes way = (k : ℕ) → k + 1 < length way → IsParent nodes (disk_on way k) (disk_on way (k + 1))

-- from the disk to where its search began
pub record IsClimb (nodes : List (Option Node)) (v : ℕ) (way : List DiskId) : Type 0 where
  pub node : Node
  pub node_is : node_at nodes v ≡ Some node
  pub len : length way ≡ node.rank + 1
  pub first : disk_on way 0 ≡ v
  pub last : disk_on way node.rank ≡ node.root.0
  pub up : GoesUp nodes way

-- the same after so many steps, at this disk
pub record IsClimbing (nodes : List (Option Node)) (v steps at : ℕ) (way : List DiskId) (node : Node) : Type 0 where
  pub len : length way ≡ steps + 1
  pub first : disk_on way 0 ≡ v
  pub last : disk_on way steps ≡ at
  pub up : GoesUp nodes way
  pub here : Node
  pub here_is : node_at nodes at ≡ Some here
  pub rank : here.rank + steps ≡ node.rank
  pub root : here.root.0 ≡ node.root.0

-- each next disk is the parent or a child
abbrev pub GoesUpOrDown : List (Option Node) → List DiskId → Type 0
GoesUpOrDown nodes walk = (k : ℕ) → k + 1 < length walk → IsParent nodes (disk_on walk k) (disk_on walk (k + 1)) ⊎ IsParent nodes (disk_on walk (k + 1)) (disk_on walk k)

-- an odd number of disks, from the one to the other
pub record IsWalkBetween (nodes : List (Option Node)) (v w : ℕ) (walk : List DiskId) : Type 0 where
  pub odd : length walk % 2 ≡ 1
  pub first : disk_on walk 0 ≡ v
  pub last : disk_on walk (length walk - 1) ≡ w
  pub steps : GoesUpOrDown nodes walk

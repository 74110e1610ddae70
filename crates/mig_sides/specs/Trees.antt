-- The disks that searches have reached, as trees.
use Rattle.std.specs.Prelude.{◌≡◌, ◌≢◌, ◌⊎◌, ℕ, ◌+◌, ◌%◌, ◌==◌, Bool, false, List, Option, Some, None, slice_index_or, is_none}
use Rattle.std.specs.List.{count_by}
use Rattle.mig_sides.specs.declared.trees.Node.{Node}

-- how a disk was reached, if it was
abbrev pub node_at : List (Option Node) → ℕ → Option Node
node_at nodes v = slice_index_or nodes v None

-- the disk was reached over an odd number of edges
abbrev pub is_odd_node : Option Node → Bool
is_odd_node None = false
is_odd_node (Some node) = node.rank % 2 == 1

-- how many disks were not reached
abbrev pub unreached : List (Option Node) → ℕ
unreached nodes = count_by is_none nodes

-- the one disk was reached from the other
pub record IsChild (nodes : List (Option Node)) (v : ℕ) (node : Node) : Type 0 where
  pub above : Node
  pub above_is : node_at nodes node.parent.0 ≡ Some above
  pub rank : node.rank ≡ above.rank + 1
  pub root : node.root.0 ≡ above.root.0

-- a search began at the disk, or the disk was reached from another one
abbrev pub IsRootedAt : List (Option Node) → ℕ → Node → Type 0
IsRootedAt nodes v node = ((node.rank ≡ 0) × (node.root.0 ≡ v)) ⊎ IsChild nodes v node

-- each disk that was reached was reached so
abbrev pub IsRooted : List (Option Node) → Type 0
IsRooted nodes = (v : ℕ) (node : Node) → node_at nodes v ≡ Some node → IsRootedAt nodes v node

-- the second disk is the parent of the first
pub record IsParent (nodes : List (Option Node)) (v p : ℕ) : Type 0 where
  pub node : Node
  pub node_is : node_at nodes v ≡ Some node
  pub deep : node.rank ≢ 0
  pub parent : node.parent.0 ≡ p

-- both disks were reached, and on different sides
pub record AreApart (nodes : List (Option Node)) (v w : ℕ) : Type 0 where
  pub one : Node
  pub other : Node
  pub one_is : node_at nodes v ≡ Some one
  pub other_is : node_at nodes w ≡ Some other
  pub apart : one.rank % 2 ≢ other.rank % 2

-- both disks were reached from where one search began, and on one side
pub record AreTogether (nodes : List (Option Node)) (v w : ℕ) : Type 0 where
  pub one : Node
  pub other : Node
  pub one_is : node_at nodes v ≡ Some one
  pub other_is : node_at nodes w ≡ Some other
  pub same_side : one.rank % 2 ≡ other.rank % 2
  pub same_root : one.root.0 ≡ other.root.0

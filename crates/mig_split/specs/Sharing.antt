-- Copies that share nodes.
use Rattle.std.specs.Prelude.{◌≡◌, ℕ, ◌+◌, ◌*◌, ◌<◌, ◌≤◌, ◌==◌, ◌&&◌, List, length, nat_lt, slice_index}
use Rattle.std.specs.List.{count_by}
use Rattle.mig_base.specs.declared.ids.CopyId.{CopyId}
use Rattle.mig_base.specs.Ends.{ends_at}
use Rattle.mig_split.specs.declared.sharing.Last.{Last}
use Rattle.mig_split.specs.Copies.{first_copy, second_of}
use Rattle.mig_split.specs.Dealing.{copy_at, count_at}

-- each edge joins a copy below `left` with one from `left` on
abbrev pub AreOnSides : ℕ → ℕ → List (CopyId × CopyId) → Type 0
AreOnSides left copies ends = (e : ℕ) → e < length ends → (first_copy ends e < left) × (left ≤ second_of ends e) × (second_of ends e < copies)

-- each edge joins the nodes of its copies
pub record AreThrough (node : ℕ → ℕ) (ends new : List (CopyId × CopyId)) : Type 0 where
  pub one_each : length new ≡ length ends
  pub first : (e : ℕ) → e < length ends → first_copy new e ≡ node (first_copy ends e)
  pub second : (e : ℕ) → e < length ends → second_of new e ≡ node (second_of ends e)

-- Each edge between copies joins the nodes of its copies, below `left` for the first copy and from `left` on for the second; no node has more than q ends, and there are few nodes.
pub record AreNodes (q : ℕ) (ends : List (CopyId × CopyId)) (left nodes : ℕ) (new : List (CopyId × CopyId)) : Type 0 where
  pub node : ℕ → ℕ
  pub through : AreThrough node ends new
  pub there : AreOnSides left nodes new
  pub most : (k : CopyId) → k.0 < nodes → ends_at k new ≤ q
  pub room : nodes * q ≤ 4 * length ends + 2 * q

-- the same on one side, by the copies at which edges end: each end is at the node of its copy
pub record IsShared (q : ℕ) (stops : List CopyId) (nodes : ℕ) (new : List CopyId) : Type 0 where
  pub one_each : length new ≡ length stops
  pub node : ℕ → ℕ
  pub is : (i : ℕ) → i < length stops → copy_at new i ≡ node (copy_at stops i)
  pub there : (i : ℕ) → i < length stops → copy_at new i < nodes
  pub most : (j : ℕ) → count_at j new ≤ q
  pub room : nodes * q ≤ 2 * length stops + q

-- how many ends each copy has
pub record AreCopyCounts (copies : ℕ) (stops : List CopyId) (counts : List ℕ) : Type 0 where
  pub len : length counts ≡ copies
  pub counted : (k : ℕ) → k < copies → slice_index counts k ≡ count_at k stops

-- The node takes the copy's ends too where it has at most q then, and else the next node takes them.
pub record IsFilledBy (q : ℕ) (last : Last) (count : ℕ) (new : Last) : Type 0 where
  pub same : last.ends + count ≤ q → (new.node ≡ last.node) × (new.ends ≡ last.ends + count)
  pub next : q < last.ends + count → (new.node ≡ last.node + 1) × (new.ends ≡ count)

-- how many ends a node has of copies below k
abbrev pub ends_in : ℕ → List CopyId → List CopyId → ℕ → ℕ
ends_in k nodes stops j = count_by (λ c. nat_lt c.0 k && (copy_at nodes c.0 == j)) stops

-- the first k copies have nodes up to the last one, which has so many ends; no node has more than q
pub record IsFilling (q k : ℕ) (stops nodes : List CopyId) (last : Last) : Type 0 where
  pub len : length nodes ≡ k
  pub there : (i : ℕ) → i < k → copy_at nodes i ≤ last.node
  pub most : (j : ℕ) → ends_in k nodes stops j ≤ q
  pub ends : ends_in k nodes stops last.node ≡ last.ends
  pub later : (j : ℕ) → last.node < j → ends_in k nodes stops j ≡ 0
  pub room : last.node * q + last.ends ≤ 2 * count_by (λ c. nat_lt c.0 k) stops

-- each copy has a node, no node has more than q ends, and there are few nodes
pub record AreFilled (q copies : ℕ) (stops nodes : List CopyId) (number : ℕ) : Type 0 where
  pub len : length nodes ≡ copies
  pub there : (k : ℕ) → k < copies → copy_at nodes k < number
  pub most : (j : ℕ) → count_by (λ c. copy_at nodes c.0 == j) stops ≤ q
  pub room : number * q ≤ 2 * length stops + q

-- each end is at the node of its copy
pub record AreNodesOf (nodes stops new : List CopyId) : Type 0 where
  pub len : length new ≡ length stops
  pub node : (i : ℕ) → i < length stops → copy_at new i ≡ copy_at nodes (copy_at stops i)

-- Disks labelled by the components that they are in.
use Rattle.std.specs.Prelude.{◌≡◌, ℕ, ◌<◌, ◌≤◌, ◌==◌, if◌then◌else◌, Some, List, length, filter, slice_get, slice_index}
use Rattle.std.specs.List.{range_with_len}
use Rattle.mig_base.specs.Transfers.{Transfers, Transfer}
use Rattle.mig_base.specs.Bounding.{has, IsClosed}

-- the disks with this label
abbrev pub labelled : List ℕ → ℕ → List ℕ
labelled labels root = filter (λ v. slice_index labels v == root) (range_with_len 0 (length labels))

-- each disk that had the one label has the other
abbrev pub Relabels : ℕ → ℕ → List ℕ → List ℕ → Type 0
Relabels from to old new = (v : ℕ) → v < length old → slice_index new v ≡ (if slice_index old v == from then to else slice_index old v)

-- each disk has a disk as its label that no closed set tells from it, itself or a lesser one whose label is itself,
-- and the ends of each of the first so many moves share theirs
pub record IsLabelling (graph : Transfers) (labels : List ℕ) (joined : ℕ) : Type 0 where
  pub len : length labels ≡ length graph.disks
  pub least : (v : ℕ) → v < length labels → slice_index labels v ≤ v
  pub root : (v : ℕ) → v < length labels → slice_index labels (slice_index labels v) ≡ slice_index labels v
  pub alike : (v : ℕ) (part : List ℕ) → v < length labels → IsClosed graph part → has part v ≡ has part (slice_index labels v)
  pub shared : (k : ℕ) (t : Transfer) → k < joined → slice_get graph.transfers k ≡ Some t → slice_index labels t.leaves ≡ slice_index labels t.reaches

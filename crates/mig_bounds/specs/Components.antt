-- The components of a transfer graph by labels, and what is counted in each.
use Rattle.std.specs.Prelude.{◌≡◌, ℕ, ◌<◌, ◌≤◌, ◌*◌, ◌==◌, List, length, filter, count_by, slice_index}
use Rattle.std.specs.List.{range_with_len}
use Rattle.mig_base.specs.declared.limits.TheConstants.{MAX_ITEMS, MAX_LIMIT}
use Rattle.mig_base.specs.Transfers.{Transfers, Transfer, inside}
use Rattle.mig_base.specs.Bounding.{Candidate, ByComponent, limit_sum}
use Rattle.mig_bounds.specs.declared.best.BestWitness.{BestWitness}
use Rattle.mig_bounds.specs.declared.best.Witness.{Witness}
use Rattle.mig_bounds.specs.declared.best.Witness.TheVariants.{Small, Component}
use Rattle.mig_bounds.specs.declared.components.Components.{Components}
use Rattle.mig_bounds.specs.Labels.{labelled, IsLabelling}
use Rattle.mig_bounds.specs.Search.{candidate_of, IsBestBelow}

-- for each label, the sum of the limits of those of the first disks that have it
pub record AreLimitSums (graph : Transfers) (labels : List ℕ) (disks : ℕ) (sums : List ℕ) : Type 0 where
  pub len : length sums ≡ length labels
  pub sum : (r : ℕ) → r < length labels → slice_index sums r ≡ limit_sum graph (filter (λ v. slice_index labels v == r) (range_with_len 0 disks))
  pub most : (r : ℕ) → r < length labels → slice_index sums r ≤ MAX_LIMIT * disks

-- for each label, how many of the transfers leave a disk that has it
pub record AreInsides (labels : List ℕ) (transfers : List Transfer) (insides : List ℕ) : Type 0 where
  pub len : length insides ≡ length labels
  pub count : (r : ℕ) → r < length labels → slice_index insides r ≡ count_by (λ t. slice_index labels t.leaves == r) transfers

-- the labels, and for each the sum of the limits of the disks that have it, and the moves between these
pub record AreComponents (graph : Transfers) (components : Components) : Type 0 where
  pub labelling : IsLabelling graph components.labels.items (length graph.transfers)
  pub sums_len : length components.sums.items ≡ length graph.disks
  pub sum : (r : ℕ) → r < length graph.disks → slice_index components.sums.items r ≡ limit_sum graph (labelled components.labels.items r)
  pub insides_len : length components.insides.items ≡ length graph.disks
  pub inside : (r : ℕ) → r < length graph.disks → slice_index components.insides.items r ≡ inside (labelled components.labels.items r) graph.transfers
  pub inside_most : (r : ℕ) → r < length graph.disks → slice_index components.insides.items r ≤ MAX_ITEMS

-- the candidate of a disk, of a triple or of a label
abbrev pub candidate_by : List ℕ → Witness → Candidate
candidate_by labels (Small set) = candidate_of set
candidate_by labels (Component root) = ByComponent (labelled labels root.0)

-- the first best of the candidates of disks, triples and labels below a place, and its value
abbrev pub IsBestOf : Transfers → Components → BestWitness → List ℕ → Type 0
IsBestOf graph components best upto = IsBestBelow graph (candidate_by components.labels.items best.witness) best.value upto

-- How many transfers join each two disks.
use Rattle.std.specs.Prelude.{◌≡◌, ◌⊎◌, ℕ, ◌+◌, ◌*◌, ◌/◌, ◌<◌, ◌≤◌, ◌==◌, ◌&&◌, ◌||◌, Bool, List, length, count_by, slice_index}
use Rattle.mig_base.specs.declared.limits.TheConstants.{MAX_ITEMS}
use Rattle.mig_base.specs.Transfers.{Transfers, Transfer}
use Rattle.mig_base.specs.Bounding.{limit}

-- the transfer joins these two disks
abbrev pub joins : ℕ → ℕ → Transfer → Bool
joins a b t = ((t.leaves == a) && (t.reaches == b)) || ((t.leaves == b) && (t.reaches == a))

-- how many transfers join them
abbrev pub between : ℕ → ℕ → List Transfer → ℕ
between a b transfers = count_by (joins a b) transfers

-- row by row, how many transfers join each two of so many disks
pub record CountsPairs (disks : ℕ) (transfers : List Transfer) (pairs : List ℕ) : Type 0 where
  pub len : length pairs ≡ disks * disks
  pub pair : (a b : ℕ) → a < disks → b < disks → slice_index pairs (a * disks + b) ≡ between a b transfers

-- the table counts the transfers
abbrev pub IsPairTable : Transfers → List ℕ → Type 0
IsPairTable graph pairs = CountsPairs (length graph.disks) graph.transfers pairs

-- for each disk, a number that no count of its pairs is above
pub record AreTops (graph : Transfers) (tops : List ℕ) : Type 0 where
  pub len : length tops ≡ length graph.disks
  pub above : (a b : ℕ) → a < length graph.disks → b < length graph.disks → between a b graph.transfers ≤ slice_index tops a
  pub most : (a : ℕ) → a < length graph.disks → slice_index tops a ≤ MAX_ITEMS

-- two disks aren't joined, or too little for a triple of greater value: no other two of it have more moves than the
-- top of their first, and its third disk has a limit of at least 1
abbrev pub IsTooLittle : Transfers → List ℕ → ℕ → ℕ → ℕ → Type 0
IsTooLittle graph tops a b rounds = (between a b graph.transfers ≡ 0)
    ⊎ (between a b graph.transfers + slice_index tops a + slice_index tops b ≤ rounds * ((limit graph a + limit graph b + 1) / 2))

-- Copies of disks as the nodes of a graph.
use Rattle.std.specs.Prelude.{◌≡◌, ℕ, ◌+◌, ◌*◌, ◌<◌, ◌≤◌, List, Bool, ◌++◌, length, min, sum, take, drop, slice_index, slice_index_or}
use Rattle.mig_base.specs.declared.ids.DiskId.{DiskId}
use Rattle.mig_base.specs.declared.ids.CopyId.{CopyId}
use Rattle.mig_base.specs.Transfers.{Transfer, div_ceil, load}
use Rattle.mig_base.specs.Transfers.{Transfers}
use Rattle.mig_base.specs.Bounding.{limit, quotient}
use Rattle.mig_base.specs.Ends.{ends_at}
use Rattle.mig_base.specs.Directions.{tail_of, head_of, transfer_at, is_forward, out_of, in_of}
use Rattle.mig_split.specs.Dealing.{occurrences, listed_disk, copy_at}

-- the number of an edge's first copy, and of its second
abbrev pub first_copy : List (CopyId × CopyId) → ℕ → ℕ
first_copy ends e = (slice_index_or ends e (record { 0 = 0 }, record { 0 = 0 })).0.0

abbrev pub second_of : List (CopyId × CopyId) → ℕ → ℕ
second_of ends e = (slice_index_or ends e (record { 0 = 0 }, record { 0 = 0 })).1.0

-- the disks that the edges leave by their directions, and those that they enter
pub record AreTails (transfers : List Transfer) (directions : List Bool) (disks : List DiskId) : Type 0 where
  pub len : length disks ≡ length transfers
  pub known : (k : ℕ) → k < length transfers → listed_disk disks k ≡ tail_of (transfer_at transfers k) (is_forward directions k)

pub record AreHeads (transfers : List Transfer) (directions : List Bool) (disks : List DiskId) : Type 0 where
  pub len : length disks ≡ length transfers
  pub known : (k : ℕ) → k < length transfers → listed_disk disks k ≡ head_of (transfer_at transfers k) (is_forward directions k)

-- the disks at which edges end: those that they leave by their directions, and then those that they enter
pub record AreEndDisks (transfers : List Transfer) (directions : List Bool) (stops : List DiskId) : Type 0 where
  pub tails : List DiskId
  pub heads : List DiskId
  pub tails_are : AreTails transfers directions tails
  pub heads_are : AreHeads transfers directions heads
  pub is : stops ≡ tails ++ heads

-- Each edge joins a copy of the disk at one of the first stops with one at the same place of the others; each disk has so many copies.
pub record AreJoined (q edges : ℕ) (numbers : List ℕ) (stops : List DiskId) (ends : List (CopyId × CopyId)) (homes : List DiskId) : Type 0 where
  pub one_each : length ends ≡ edges
  pub there : (e : ℕ) → e < edges → (first_copy ends e < length homes) × (second_of ends e < length homes)
  pub first : (e : ℕ) → e < edges → listed_disk homes (first_copy ends e) ≡ listed_disk stops e
  pub second : (e : ℕ) → e < edges → listed_disk homes (second_of ends e) ≡ listed_disk stops (edges + e)
  pub number : (v : ℕ) → v < length numbers → occurrences v homes ≡ slice_index numbers v
  pub most : (k : CopyId) → k.0 < length homes → ends_at k ends ≤ q
  pub total : length homes ≡ sum numbers

-- how many copies a disk has whose edges are shared out: as many as its limit, but none for less than a share of edges
abbrev pub shared : Transfers → ℕ → ℕ → ℕ
shared graph share v = min (limit graph v) (div_ceil (load v graph.transfers) share)

-- these numbers of all disks
pub record AreShared (graph : Transfers) (share : ℕ) (numbers : List ℕ) : Type 0 where
  pub len : length numbers ≡ length graph.disks
  pub each : (v : ℕ) → v < length graph.disks → slice_index numbers v ≡ shared graph share v

-- Each edge joins a copy of the disk that it leaves by its direction with one of the disk that it enters; a disk has at most its limit of copies, and no copy more ends than the quotient.
pub record AreShares (graph : Transfers) (directions : List Bool) (share : ℕ) (ends : List (CopyId × CopyId)) (homes : List DiskId) : Type 0 where
  pub one_each : length ends ≡ length graph.transfers
  pub there : (e : ℕ) → e < length ends → (first_copy ends e < length homes) × (second_of ends e < length homes)
  pub first : (e : ℕ) → e < length ends → listed_disk homes (first_copy ends e) ≡ tail_of (transfer_at graph.transfers e) (is_forward directions e)
  pub second : (e : ℕ) → e < length ends → listed_disk homes (second_of ends e) ≡ head_of (transfer_at graph.transfers e) (is_forward directions e)
  pub number : (v : ℕ) → v < length graph.disks → occurrences v homes ≡ shared graph share v
  pub most : (k : CopyId) → k.0 < length homes → ends_at k ends ≤ quotient graph
  pub room : length homes * share ≤ 2 * length graph.transfers + length graph.disks * share
  pub few : length homes ≤ 2 * length graph.transfers

-- Each edge joins a copy of the disk that it leaves with one of the disk that it reaches; a disk has as few copies as q ends for each allow.
pub record AreCopies (q : ℕ) (graph : Transfers) (ends : List (CopyId × CopyId)) (homes : List DiskId) : Type 0 where
  pub one_each : length ends ≡ length graph.transfers
  pub there : (e : ℕ) → e < length ends → (first_copy ends e < length homes) × (second_of ends e < length homes)
  pub first : (e : ℕ) → e < length ends → listed_disk homes (first_copy ends e) ≡ (transfer_at graph.transfers e).leaves
  pub second : (e : ℕ) → e < length ends → listed_disk homes (second_of ends e) ≡ (transfer_at graph.transfers e).reaches
  pub number : (v : ℕ) → v < length graph.disks → occurrences v homes ≡ div_ceil (load v graph.transfers) q
  pub most : (k : CopyId) → k.0 < length homes → ends_at k ends ≤ q
  pub room : length homes * q ≤ 2 * length graph.transfers + length graph.disks * q
  pub few : length homes ≤ 2 * length graph.transfers

-- Each edge joins a copy of the disk that it leaves by its direction, below `left`, with one of the disk that it enters, from `left` on.
pub record AreSides (q : ℕ) (graph : Transfers) (directions : List Bool) (left : ℕ) (ends : List (CopyId × CopyId)) (homes : List DiskId) : Type 0 where
  pub one_each : length ends ≡ length graph.transfers
  pub there : (e : ℕ) → e < length ends → (first_copy ends e < left) × (left ≤ second_of ends e) × (second_of ends e < length homes)
  pub first : (e : ℕ) → e < length ends → listed_disk homes (first_copy ends e) ≡ tail_of (transfer_at graph.transfers e) (is_forward directions e)
  pub second : (e : ℕ) → e < length ends → listed_disk homes (second_of ends e) ≡ head_of (transfer_at graph.transfers e) (is_forward directions e)
  pub left_number : (v : ℕ) → v < length graph.disks → occurrences v (take left homes) ≡ div_ceil (out_of graph.transfers directions v) q
  pub right_number : (v : ℕ) → v < length graph.disks → occurrences v (drop left homes) ≡ div_ceil (in_of graph.transfers directions v) q
  pub most : (k : CopyId) → k.0 < length homes → ends_at k ends ≤ q
  pub room : length homes * q ≤ 2 * length graph.transfers + 2 * (length graph.disks * q)
  pub few : length homes ≤ 2 * length graph.transfers

-- each edge joins the copy of the first list at its place with that of the second, which are numbered from `from` on
pub record AreCopyPairs (firsts seconds : List CopyId) (from : ℕ) (ends : List (CopyId × CopyId)) : Type 0 where
  pub len : length ends ≡ length firsts
  pub first : (e : ℕ) → e < length firsts → first_copy ends e ≡ copy_at firsts e
  pub second : (e : ℕ) → e < length firsts → second_of ends e ≡ from + copy_at seconds e

-- Ends of edges at disks, dealt to copies of the disks.
use Rattle.std.specs.Prelude.{◌≡◌, ℕ, ◌+◌, ◌*◌, ◌<◌, ◌≤◌, ◌==◌, List, length, All, slice_index_or, slice_index, sum}
use Rattle.std.specs.List.{count_by}
use Rattle.mig_base.specs.declared.ids.DiskId.{DiskId}
use Rattle.mig_base.specs.declared.ids.CopyId.{CopyId}
use Rattle.mig_base.specs.Transfers.{div_ceil}

-- how often the disk stands in the list
abbrev pub occurrences : ℕ → List DiskId → ℕ
occurrences v disks = count_by (λ d. d.0 == v) disks

-- how often the copy stands in the list
abbrev pub count_at : ℕ → List CopyId → ℕ
count_at k copies = count_by (λ c. c.0 == k) copies

-- the disk at a place, and the copy
abbrev pub listed_disk : List DiskId → ℕ → ℕ
listed_disk disks k = (slice_index_or disks k (record { 0 = 0 })).0

abbrev pub copy_at : List CopyId → ℕ → ℕ
copy_at copies k = (slice_index_or copies k (record { 0 = 0 })).0

-- no disk has more ends than its copies may have, q each
abbrev pub IsEnough : ℕ → List DiskId → List ℕ → Type 0
IsEnough q stops numbers = (v : ℕ) → v < length numbers → occurrences v stops ≤ slice_index numbers v * q

-- Each end gets a copy of its disk, each disk has so many copies, and no copy has more than q ends.
pub record IsDealtBy (q : ℕ) (numbers : List ℕ) (stops homes : List DiskId) (copies : List CopyId) : Type 0 where
  pub one_each : length copies ≡ length stops
  pub there : All (λ c. c.0 < length homes) copies
  pub home : (i : ℕ) → i < length stops → listed_disk homes (copy_at copies i) ≡ listed_disk stops i
  pub number : (v : ℕ) → v < length numbers → occurrences v homes ≡ slice_index numbers v
  pub most : (k : ℕ) → k < length homes → count_at k copies ≤ q
  pub homes_there : All (λ d. d.0 < length numbers) homes
  pub total : length homes ≡ sum numbers

-- For each disk its ends over q, rounded up: as few copies as can have them, q each.
pub record AreFewCopies (q disks : ℕ) (stops : List DiskId) (numbers : List ℕ) : Type 0 where
  pub len : length numbers ≡ disks
  pub each : (v : ℕ) → v < disks → slice_index numbers v ≡ div_ceil (occurrences v stops) q
  pub room : sum numbers * q ≤ length stops + disks * q
  pub few : sum numbers ≤ length stops

-- Each end gets a copy of its disk, a disk has its ends over q copies, rounded up, and no copy has more than q ends.
pub record IsDealt (q disks : ℕ) (stops homes : List DiskId) (copies : List CopyId) : Type 0 where
  pub one_each : length copies ≡ length stops
  pub there : All (λ c. c.0 < length homes) copies
  pub home : (i : ℕ) → i < length stops → listed_disk homes (copy_at copies i) ≡ listed_disk stops i
  pub number : (v : ℕ) → v < disks → occurrences v homes ≡ div_ceil (occurrences v stops) q
  pub most : (k : ℕ) → k < length homes → count_at k copies ≤ q
  pub homes_there : All (λ d. d.0 < disks) homes
  pub room : length homes * q ≤ length stops + disks * q
  pub few : length homes ≤ length stops

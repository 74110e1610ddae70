-- From an edge to the next one at each of its ends.
use Rattle.std.specs.Prelude.{◌≡◌, ◌≢◌, ℕ, ◌+◌, ◌<◌, ◌≤◌, List, length, slice_index_or, slice_index}
use Rattle.mig_base.specs.declared.ids.DiskId.{DiskId}
use Rattle.mig_euler.specs.Pairs.{pair_at}

-- from n on, no edge before m has the disk as an end
pub record IsNextAt (ends : List (DiskId × DiskId)) (v : DiskId) (n m : ℕ) : Type 0 where
  pub from : n ≤ m
  pub within : m ≤ length ends
  pub none : (j : ℕ) → n ≤ j → j < m → ((pair_at ends j).0 ≢ v) × ((pair_at ends j).1 ≢ v)

-- the two links of an edge, one at each end
abbrev pub link_at : List (ℕ × ℕ) → ℕ → ℕ × ℕ
link_at links e = slice_index_or links e (0, 0)

-- the links of the edges from number k on lead to the next edge at each end
pub record AreLinksFrom (ends : List (DiskId × DiskId)) (k : ℕ) (links : List (ℕ × ℕ)) : Type 0 where
  pub len : length links ≡ length ends
  pub first : (e : ℕ) → k ≤ e → e < length ends → IsNextAt ends (pair_at ends e).0 (e + 1) (link_at links e).0
  pub second : (e : ℕ) → k ≤ e → e < length ends → IsNextAt ends (pair_at ends e).1 (e + 1) (link_at links e).1

-- and so of all edges
abbrev pub AreLinks : List (DiskId × DiskId) → List (ℕ × ℕ) → Type 0
AreLinks ends links = AreLinksFrom ends 0 links

-- the first edge of each disk from n on
abbrev pub AreFirst : List (DiskId × DiskId) → ℕ → List ℕ → Type 0
AreFirst ends n first = (v : DiskId) → v.0 < length first → IsNextAt ends v n (slice_index first v.0)

-- Directions of a multigraph's edges, some of which have none yet.
use Rattle.std.specs.Prelude.{◌≡◌, ℕ, ◌≤◌, ◌<◌, Bool, true, false, ◌⊎◌, List, Option, Some, None, slice_get, slice_index, length}
use Rattle.mig_base.specs.declared.ids.EdgeId.{EdgeId}
use Rattle.mig_base.specs.declared.ids.DiskId.{DiskId}

-- an edge leaves its first end where its direction is true, and its second end where it is false
abbrev pub pair_tail : DiskId × DiskId → Bool → DiskId
pair_tail p true = p.0
pair_tail p false = p.1

abbrev pub pair_head : DiskId × DiskId → Bool → DiskId
pair_head p true = p.1
pair_head p false = p.0

-- edge e has disk v as an end and has no direction yet
pub record IsWaiting (ends : List (DiskId × DiskId)) (directions : List (Option Bool)) (v : DiskId) (e : EdgeId) : Type 0 where
  pub plain : slice_get directions e.0 ≡ Some None
  pub at : (w : DiskId) × ((slice_get ends e.0 ≡ Some (v, w)) ⊎ (slice_get ends e.0 ≡ Some (w, v)))

-- no edge below the place waits at v
abbrev pub PassedBelow : List (DiskId × DiskId) → List (Option Bool) → DiskId → ℕ → Type 0
PassedBelow ends directions v n = (e : EdgeId) → e.0 < n → IsWaiting ends directions v e → ⊥

-- each disk has a place up to which no edge waits at it
pub record AllPassed (ends : List (DiskId × DiskId)) (directions : List (Option Bool)) (from : List ℕ) : Type 0 where
  pub bound : (v : DiskId) → slice_index from v.0 ≤ length ends
  pub passed : (v : DiskId) → PassedBelow ends directions v (slice_index from v.0)

-- the ends are disks that are there
abbrev pub AllInRange : List (DiskId × DiskId) → ℕ → Type 0
AllInRange ends disks = (e : EdgeId) (p : DiskId × DiskId) → slice_get ends e.0 ≡ Some p → (p.0.0 < disks) × (p.1.0 < disks)

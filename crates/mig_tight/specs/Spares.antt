-- The spares that a plan begins with: free slots among the first slots of each disk.
use Rattle.std.specs.Prelude.{◌≡◌, ◌⊎◌, ℕ, ◌+◌, ◌<◌, ◌≤◌, ◌^◌, List, length, slice_index, All, Contains}
use Rattle.mig_base.specs.declared.ids.Spot.{Spot}
use Rattle.mig_base.specs.InputLists.{InputLists, AreDifferent}
use Rattle.mig_base.specs.Targets.{present}
use Rattle.mig_tight.specs.PlanStates.{first_slots}
use Rattle.mig_base.specs.TightPlans.{wanted}

-- how many items are on each disk or belong on it
pub record AreEnds (input : InputLists) (counts : List ℕ) : Type 0 where
  pub len : length counts ≡ length input.disks
  pub count : (v : ℕ) → v < length input.disks → slice_index counts v ≡ present input v + wanted input v
  pub few : (v : ℕ) → v < length input.disks → slice_index counts v ≤ 2 ^ 17

-- how many of its first slots are looked at, for each disk
pub record AreSearchWidths (input : InputLists) (widths : List ℕ) : Type 0 where
  pub len : length widths ≡ length input.disks
  pub width : (v : ℕ) → v < length input.disks → slice_index widths v ≡ first_slots input v

-- slot s of disk v
abbrev pub spot : ℕ → ℕ → Spot
spot v s = record { disk = record { 0 = v }; slot = s }

-- slot s of disk v comes before slot n of disk d, disk by disk
abbrev pub IsBefore : ℕ → ℕ → ℕ → ℕ → Type 0
IsBefore d n v s = (v < d) ⊎ ((v ≡ d) × (s < n))

-- the spares before slot n of disk d: of the slots that are looked at those that no item has
pub record SparesBefore (input : InputLists) (d n : ℕ) (spares : List Spot) : Type 0 where
  pub there : All (λ spare. (spare.disk.0 < length input.disks) × (spare.slot < first_slots input spare.disk.0)) spares
  pub free : All (λ spare. ¬ Contains input.spots spare) spares
  pub early : All (λ spare. IsBefore d n spare.disk.0 spare.slot) spares
  pub apart : AreDifferent spares
  pub full : (v s : ℕ) → v < length input.disks → s < first_slots input v → IsBefore d n v s → (Contains input.spots (spot v s)) ⊎ (Contains spares (spot v s))

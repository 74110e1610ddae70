-- How far a plan of single shifts has come, and what holds after each shift.
use Rattle.std.specs.Prelude.{◌≡◌, ◌==◌, ◌+◌, ◌≤◌, ◌<◌, ◌⊎◌, ℕ, suc, min, true, List, [], length, All, Contains, slice_get, slice_index_or, count_by}
use Rattle.mig_base.specs.declared.ids.Spot.{Spot}
use Rattle.mig_base.specs.declared.ids.Shift.{Shift}
use Rattle.mig_base.specs.declared.ids.ItemId.{ItemId}
use Rattle.mig_base.specs.InputLists.{InputLists, AreDifferent, IsSpotOf, no_spot}
use Rattle.mig_base.specs.Layouts.{Layout, At, round_at}
use Rattle.mig_base.specs.Transfers.{is_relocated, target}
use Rattle.mig_base.specs.Targets.{present, IsRoomy}
use Rattle.mig_base.specs.Running.{IsLegal, ShiftFits, shift_count}
use Rattle.mig_base.specs.TightPlans.{slots_of, wanted}

-- where each item is, the spares, which are free slots that items may be shifted to, the items that wait for each disk, and the rounds so far
pub record PlanState : Type 0 where
  pub spots : List Spot
  pub spares : List Spot
  pub waiting : List (List ItemId)
  pub rounds : List (List Shift)

abbrev pub spot_at : List Spot → ℕ → Spot
spot_at spots k = slice_index_or spots k no_spot

abbrev pub queue_at : List (List ItemId) → ℕ → List ItemId
queue_at waiting v = slice_index_or waiting v []

-- how many of these spots are on a disk
abbrev pub count_on : ℕ → List Spot → ℕ
count_on v spots = count_by (λ spot. spot.disk.0 == v) spots

-- the layout of a list of spots
abbrev pub layout_of : List Spot → Layout
layout_of spots item = slice_get spots item

-- the rounds can be carried out, a shift each, and then the items are at these spots
pub record RoundsLead (input : InputLists) (spots : List Spot) (rounds : List (List Shift)) : Type 0 where
  pub legal : (k : ℕ) → k < length rounds → IsLegal input (At input rounds k) (round_at rounds (suc k))
  pub single : All (λ round. length round ≡ 1) rounds
  pub fits : All (λ round. All (ShiftFits input) round) rounds
  pub ends : At input rounds (length rounds) ≡ layout_of spots

-- the spots and the spares are slots of the disks, and no two of them are the same
pub record ArePlaced (input : InputLists) (spots spares : List Spot) : Type 0 where
  pub len : length spots ≡ length input.items
  pub spots_there : All (IsSpotOf input.disks) spots
  pub spots_apart : AreDifferent spots
  pub spares_there : All (IsSpotOf input.disks) spares
  pub spares_apart : AreDifferent spares
  pub spares_free : All (λ spare. ¬ Contains spots spare) spares

-- so many of a disk's first slots are looked at for spares: enough for all items that are on it or belong on it, and one more; or all of them
abbrev pub first_slots : InputLists → ℕ → ℕ
first_slots input v = min (slots_of input v) (present input v + wanted input v + 1)

-- each disk has at least as many items and spares
abbrev pub HasSpares : InputLists → List Spot → List Spot → Type 0
HasSpares input spots spares = (v : ℕ) → v < length input.disks → first_slots input v ≤ count_on v spots + count_on v spares

-- the item is on its next disk
abbrev pub IsOnNext : InputLists → List Spot → ℕ → Type 0
IsOnNext input spots item = (spot_at spots item).disk.0 ≡ target input item

-- the item waits for this disk
pub record WaitsFor (input : InputLists) (spots : List Spot) (v : ℕ) (item : ItemId) : Type 0 where
  pub there : item.0 < length input.items
  pub goes : target input item.0 ≡ v
  pub away : ¬ IsOnNext input spots item.0

-- the items that aren't on their next disk wait for it, each once
pub record AreQueues (input : InputLists) (spots : List Spot) (waiting : List (List ItemId)) : Type 0 where
  pub len : length waiting ≡ length input.disks
  pub all_wait : (v : ℕ) → v < length input.disks → All (WaitsFor input spots v) (queue_at waiting v)
  pub apart : (v : ℕ) → v < length input.disks → AreDifferent (queue_at waiting v)
  pub everyone : (item : ℕ) → item < length input.items → ¬ IsOnNext input spots item → Contains (queue_at waiting (target input item)) (record { 0 = item })

-- nobody waits for the disk of this spot
abbrev pub IsUnawaited : List (List ItemId) → Spot → Type 0
IsUnawaited waiting spot = queue_at waiting spot.disk.0 ≡ []

-- What an item has been through: nothing yet; it is parked, on a disk for which nobody waits; or it is on its next disk
pub record IsUnmoved (input : InputLists) (s : PlanState) (item : ℕ) : Type 0 where
  pub count : shift_count s.rounds item ≡ 0
  pub spot : spot_at s.spots item ≡ spot_at input.spots item

pub record IsParked (input : InputLists) (s : PlanState) (item : ℕ) : Type 0 where
  pub relocated : is_relocated input item ≡ true
  pub count : shift_count s.rounds item ≡ 1
  pub away : ¬ IsOnNext input s.spots item
  pub unawaited : IsUnawaited s.waiting (spot_at s.spots item)
  pub tight : ¬ IsRoomy input

pub record IsAtTarget (input : InputLists) (s : PlanState) (item : ℕ) : Type 0 where
  pub relocated : is_relocated input item ≡ true
  pub on_next : IsOnNext input s.spots item
  pub some : 1 ≤ shift_count s.rounds item
  pub most : shift_count s.rounds item ≤ 2
  pub once : IsRoomy input → shift_count s.rounds item ≡ 1

abbrev pub History : InputLists → PlanState → ℕ → Type 0
History input s item = IsUnmoved input s item ⊎ (IsParked input s item ⊎ IsAtTarget input s item)

-- what holds after each shift
pub record IsSoundState (input : InputLists) (s : PlanState) : Type 0 where
  pub reaches : RoundsLead input s.spots s.rounds
  pub placed : ArePlaced input s.spots s.spares
  pub enough : HasSpares input s.spots s.spares
  pub queues : AreQueues input s.spots s.waiting
  pub history : (item : ℕ) → item < length input.items → History input s item

-- What the slots of a plan must hold so that no store refuses to carry it out.
use Rattle.std.specs.Prelude.{◌≡◌, ◌<◌, true, ℕ, List, [], All, Option, Some, IsSome, length}
use Rattle.std.specs.List.{prefix_len, range_with_len}
use Rattle.std.specs.Option.{option_map, IsSomeAnd}
use Rattle.mig_base.specs.declared.cells.Cell.{Cell}
use Rattle.mig_base.specs.declared.cells.Cell.TheVariants.{Head}
use Rattle.mig_base.specs.Flights.{AreFlights}
use Rattle.mig_base.specs.Images.{Image}
use Rattle.mig_base.specs.JobCells.{IsFreeSlot, IsJobCell, IsMark, Tells}
use Rattle.mig_base.specs.Journals.{count_of, is_armed, is_marked}
use Rattle.mig_base.specs.Layouts.{At, round_at}
use Rattle.mig_base.specs.Naming.{IsName}
use Rattle.mig_base.specs.Readiness.{IsShifted}
use Rattle.mig_base.specs.Slots.{HasHeader, slot_of}
use Rattle.mig_base.specs.Stores.{State, flights}
use Rattle.mig_base.specs.Tasks.{Task}
use Rattle.mig_base.specs.Texts.{item_name}
use Rattle.mig_store.specs.Grounds.{Sights, SlotsDiffer}

-- the slot of an item after k rounds
abbrev pub cell_at : Task → ℕ → ℕ → Option Cell
cell_at task k item = option_map (slot_of task.input) (At task.input task.plan k item)

-- an item that the plan shifts is in its slot after k rounds, which is told
abbrev pub IsItemKept : Task → Image → ℕ → ℕ → Type 0
IsItemKept task image k item = IsShifted task.plan item → IsSomeAnd (cell_at task k item) (λ cell. IsSomeAnd (image cell) (HasHeader (item_name task.input item)))

abbrev pub AreItemsKept : Task → Image → ℕ → Type 0
AreItemsKept task image k = (item : ℕ) → IsItemKept task image k item

-- this is the name of an item that the plan shifts
abbrev pub IsShiftedName : Task → List ℕ → Type 0
IsShiftedName task name = (item : ℕ) × (item < length task.input.items) × IsShifted task.plan item × (item_name task.input item ≡ name)

-- each named slot that is free after k rounds is told, and holds no item but such as the plan shifts
abbrev pub HoldNoOther : Task → Image → ℕ → Type 0
HoldNoOther task image k = (cell : Cell) → IsFreeSlot task.input task.plan k cell → IsSomeAnd (image cell) (λ bytes. (name : List ℕ) → IsName name → HasHeader name bytes → IsShiftedName task name)

-- what round k left is what it copied
abbrev pub AreAlike : Task → Image → ℕ → Type 0
AreAlike task image k = All (λ s. ¬ SlotsDiffer image (slot_of task.input s.from) (slot_of task.input s.to)) (round_at task.plan k)

-- After k rounds the cells show no ground on which a store refuses.
pub record IsKept (task : Task) (image : Image) (k : ℕ) : Type 0 where
  pub items : AreItemsKept task image k
  pub free : HoldNoOther task image k
  pub alike : AreAlike task image k

-- the same after the rounds that the marks count, which are told
pub record IsKeptMarked (task : Task) (image : Image) : Type 0 where
  pub told : Tells (IsMark (length task.plan)) image
  pub kept : IsKept task image (prefix_len (is_marked image) (range_with_len 1 (length task.plan)))

-- the cells of the plan are told, and where the journal names it they show none after the rounds that count. A store that is ready shows none.
pub record IsUnrefused (task : Task) (s : State) : Type 0 where
  pub slots : AreFlights (flights s)
  pub told : Tells (IsJobCell task.input task.plan) s.reads
  pub kept : is_armed s.reads ≡ true → s.reads Head ≡ Some task.digest → (flights s ≡ []) × IsKept task s.reads (count_of (length task.plan) s.reads)

-- Once the items were seen

-- an item that the plan shifts was seen in its slot after k rounds
abbrev pub IsItemSeen : Task → Sights → ℕ → ℕ → Type 0
IsItemSeen task seen k item = IsShifted task.plan item → IsSomeAnd (cell_at task k item) (λ cell. seen cell (item_name task.input item))

-- each was, and its slot is told; no other item is in a free slot. So nothing that the next round does is refused.
pub record IsSeen (task : Task) (seen : Sights) (image : Image) (k : ℕ) : Type 0 where
  pub items : (item : ℕ) → item < length task.input.items → IsShifted task.plan item → IsSomeAnd (cell_at task k item) (λ cell. IsSome (image cell) × seen cell (item_name task.input item))
  pub free : HoldNoOther task image k

-- Sessions: plans that are carried out one step at a time.
use Rattle.std.specs.Prelude.{◌==◌, ◌<◌, ◌≤◌, ◌+◌, ◌-◌, ◌*◌, Bool, ℕ, suc, List, [], ◌∷◌, Contains, if◌then◌else◌, length, drop, nat_lt, sum_by}
use Rattle.std.specs.Option.{IsSomeAnd}
use Rattle.mig_base.specs.declared.cells.Cell.{Cell}
use Rattle.mig_base.specs.declared.ids.Shift.{Shift}
use Rattle.mig_base.specs.Safety.{Contents}
use Rattle.mig_base.specs.Stores.{State}
use Rattle.mig_base.specs.Tasks.{Task}
use Rattle.mig_base.specs.Images.{Image}
use Rattle.mig_base.specs.Layouts.{round_at}
use Rattle.mig_base.specs.Readiness.{IsShifted}
use Rattle.mig_base.specs.Slots.{HasHeader, item_cell, slot_of}
use Rattle.mig_base.specs.declared.ids.ItemId.{ItemId}
use Rattle.mig_live.specs.declared.orders.Order.{Order}
use Rattle.mig_live.specs.declared.orders.Order.TheVariants.{Read}
use Rattle.mig_base.specs.Texts.{item_name}
use Rattle.mig_mover.specs.Holdings.{IsSeen}
use Rattle.mig_store.specs.Grounds.{Sights}
use Rattle.mig_live.specs.Underways.{round_size, steps_in, IsAmong, IsAtStep, IsLoose}

-- what is carried out, how many of its rounds are marked, and how many steps are left
pub record Session : Type 0 where
  pub task : Task
  pub marked : ℕ
  pub left : ℕ

-- how many steps there are once k rounds are marked and the sources of the last of them are erased: for each shift a copy and an erasure, for each round a sync and a mark, and the last sync
abbrev pub steps_after : List (List Shift) → ℕ → ℕ
steps_after plan k = sum_by (λ shifts. 2 * length shifts + 2) (drop k plan) + 1

-- how many of these rounds get their marks by so many steps, from the first copy on: a round's copies, its sync and its mark are among them, and then come its erasures
abbrev pub marks_by : List (List Shift) → ℕ → ℕ
marks_by [] steps = 0
marks_by (shifts ∷ rounds) steps = if nat_lt steps (length shifts + 2) then 0 else suc (marks_by rounds (steps - (2 * length shifts + 2)))

-- how many steps are done since the last mark; erasures that `enter` did count too
abbrev pub done_in : Session → ℕ
done_in live = round_size live.task.plan live.marked + steps_after live.task.plan live.marked - live.left

-- what every session keeps: as many rounds are marked as have their marks among the steps that are done
pub record IsSession (live : Session) : Type 0 where
  pub most : live.marked ≤ length live.task.plan
  pub low : live.left ≤ round_size live.task.plan live.marked + steps_after live.task.plan live.marked
  pub high : done_in live ≤ steps_in live.task.plan live.marked

-- whether the next step is a mark, where a step is left
abbrev pub is_synced : Session → Bool
is_synced live = done_in live == steps_in live.task.plan live.marked

-- the store holds what the session's steps left in it, with these contents of the items
abbrev pub InStep : Bool → Session → Contents → State → Type 0
InStep asked live contents s = IsAtStep asked live.task.input live.task.plan live.task.digest contents s live.marked (done_in live)

-- k rounds are marked and p steps are done since: each item was seen where these rounds took it, and those that the next round has copied at their targets too
pub record IsSeenAtStep (task : Task) (seen : Sights) (image : Image) (k p : ℕ) : Type 0 where
  pub items : IsSeen task seen image k
  pub copied : (m : Shift) → IsAmong (p - round_size task.plan k) (round_at task.plan (suc k)) m → seen (slot_of task.input m.to) (item_name task.input m.item.0)

-- so it is of the session's steps: nothing that its next step does is refused
abbrev pub InSight : Session → Sights → Image → Type 0
InSight live seen image = IsSeenAtStep live.task seen image live.marked (done_in live)

-- an item that isn't shifted and that is read is where it is listed, which is told
abbrev pub AreOthersKept : Task → Image → List Order → Type 0
AreOthersKept task image orders = (item : ItemId) → Contains orders (Read item) → ¬ IsShifted task.plan item.0 → IsSomeAnd (image (item_cell task.input item.0)) (HasHeader (item_name task.input item.0))

-- nothing is refused that these orders ask for
pub record InSightFor (live : Session) (orders : List Order) (seen : Sights) (image : Image) : Type 0 where
  pub steps : InSight live seen image
  pub others : AreOthersKept live.task image orders

-- the cells that it has written since its last sync
abbrev pub IsUnsynced : Session → Cell → Type 0
IsUnsynced live cell = (done_in live < steps_in live.task.plan live.marked)
    × IsLoose live.task.input live.task.plan live.marked (done_in live) (done_in live - round_size live.task.plan live.marked) cell

-- Plans for disks that can't hold old and incoming items together: which inputs have a plan at all, and what such a plan keeps.
use Rattle.std.specs.Prelude.{◌≡◌, ◌==◌, ◌<◌, ◌≤◌, ℕ, true, false, List, length, count_by, All}
use Rattle.std.specs.List.{range_with_len}
use Rattle.mig_base.specs.declared.ids.Shift.{Shift}
use Rattle.mig_base.specs.InputLists.{InputLists, disk_at}
use Rattle.mig_base.specs.Transfers.{is_relocated}
use Rattle.mig_base.specs.Targets.{IsRoomy, present}
use Rattle.mig_base.specs.Running.{Once, Runs, shift_count}

-- the slots of a disk, and how many items have it as their next disk
abbrev pub slots_of : InputLists → ℕ → ℕ
slots_of input v = (disk_at input.disks v).slots

abbrev pub wanted : InputLists → ℕ → ℕ
wanted input v = count_by (λ disk. disk.0 == v) input.next

-- each disk is the next disk of at most as many items as it has slots
abbrev pub Fits : InputLists → Type 0
Fits input = (v : ℕ) → v < length input.disks → wanted input v ≤ slots_of input v

-- some disk has fewer items now than slots
abbrev pub HasFreeSlot : InputLists → Type 0
HasFreeSlot input = (v : ℕ) × (v < length input.disks) × (present input v < slots_of input v)

-- some item is relocated
abbrev pub HasMove : InputLists → Type 0
HasMove input = (item : ℕ) × (item < length input.items) × (is_relocated input item ≡ true)

-- The plan can be carried out, one shift a round. It shifts each relocated item once or twice and no other item; and where each disk has room
-- for what comes to it, each relocated item once
pub record IsTightPlan (input : InputLists) (plan : List (List Shift)) : Type 0 where
  pub runs : Runs input plan
  pub single : All (λ round. length round ≡ 1) plan
  pub relocated : (item : ℕ) → item < length input.items → is_relocated input item ≡ true → (1 ≤ shift_count plan item) × (shift_count plan item ≤ 2)
  pub others : (item : ℕ) → item < length input.items → is_relocated input item ≡ false → shift_count plan item ≡ 0
  pub once : IsRoomy input → Once input plan

-- how many items the plan parks: it shifts them twice
abbrev pub parked : InputLists → List (List Shift) → ℕ
parked input plan = count_by (λ item. shift_count plan item == 2) (range_with_len 0 (length input.items))

-- no plan at all can be carried out
abbrev pub HasNoPlan : InputLists → Type 0
HasNoPlan input = (plan : List (List Shift)) → ¬ Runs input plan

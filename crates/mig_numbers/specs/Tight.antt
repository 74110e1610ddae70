-- Plans for tight space, in rows.
use Rattle.std.specs.Prelude.{Bool, List, count_by, length, slice_index_or, ℕ, ◌*◌, ◌+◌, ◌<◌, ◌≡◌, ◌≤◌, ◌⊎◌}
use Rattle.mig_base.specs.InputLists.{InputLists}
use Rattle.mig_base.specs.TightPlans.{Fits, HasFreeSlot, HasMove, HasNoPlan, IsTightPlan, parked}
use Rattle.mig_base.specs.Transfers.{moves}
use Rattle.mig_base.specs.declared.ids.Shift.{Shift}
use Rattle.mig_numbers.specs.Handed.{IsHanded, is_row_of, plan_rows, rows_for}
use Rattle.mig_numbers.specs.Numbers.{input_of, no_item}
use Rattle.mig_numbers.specs.Refusals.{AreThere, IsUnfit}
use Rattle.mig_numbers.specs.declared.numbers.DiskNumbers.{DiskNumbers}
use Rattle.mig_numbers.specs.declared.numbers.ItemNumbers.{ItemNumbers}
use Rattle.mig_numbers.specs.declared.numbers.Refused.{Refused}
use Rattle.mig_numbers.specs.declared.numbers.ShiftNumbers.{ShiftNumbers}
use Rattle.mig_numbers.specs.declared.numbers.Unmade.{Unmade}
use Rattle.mig_numbers.specs.declared.numbers.Unmade.TheVariants.{Impossible, Unfit}
use Rattle.mig_tight.specs.Causes.{IsFirstOverfull}

-- There is a plan of single shifts for the input that the numbers stand for, and its shifts are handed back as rows, one for each round: more than
-- there are items to go to another disk by those that it parks. Such an item has one row or two, and no other has any.
pub record HandsTight (split : Bool) (disks : List DiskNumbers) (items : List ItemNumbers) (old shifts : List ShiftNumbers) (count : ℕ) : Type 0 where
  pub there : AreThere split disks items
  pub rounds : List (List Shift)
  pub made : IsTightPlan (input_of split disks items) rounds
  pub in_shifts : IsHanded (plan_rows rounds) old shifts count
  pub single : count ≡ length rounds
  pub parks : count ≡ length (moves (input_of split disks items)) + parked (input_of split disks items) rounds
  pub least : (i : ℕ) → i < length items → rows_for (slice_index_or items i no_item) ≤ count_by (is_row_of i) (plan_rows rounds)
  pub most : (i : ℕ) → i < length items → count_by (is_row_of i) (plan_rows rounds) ≤ 2 * rows_for (slice_index_or items i no_item)
  pub few : count ≤ 2 * length items

-- No plan at all can be carried out: this is the first disk that is the next disk of more items than it has slots, with both numbers (9); or no slot
-- is free, and some item is to go to another disk (10)
abbrev pub IsNoPlan : InputLists → Refused → Type 0
IsNoPlan input refused = HasNoPlan input × (((refused.cause ≡ 9) × IsFirstOverfull input refused.place refused.needs refused.has)
    ⊎ ((refused.cause ≡ 10) × Fits input × HasMove input × ¬ HasFreeSlot input))

-- why there are no shifts: the numbers are refused, or no plan can be carried out
abbrev pub IsUnplanned : Bool → List DiskNumbers → List ItemNumbers → Unmade → Type 0
IsUnplanned split disks items (Unfit why) = IsUnfit split disks items why
IsUnplanned split disks items (Impossible refused) = AreThere split disks items × IsNoPlan (input_of split disks items) refused

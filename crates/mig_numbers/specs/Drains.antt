-- Next disks that empty a disk, in numbers.
use Rattle.std.specs.Prelude.{Bool, List, length, ℕ, ◌<◌, ◌≡◌, ◌≤◌, ◌⊎◌}
use Rattle.mig_base.specs.DiskNumbers.{numbers}
use Rattle.mig_base.specs.Draining.{AreDealt, AreFewest, Empties, NeedsToEmpty, PlansHave, free_elsewhere, places, with_next}
use Rattle.mig_base.specs.InputLists.{InputLists}
use Rattle.mig_base.specs.Targets.{present}
use Rattle.mig_base.specs.declared.ids.DiskId.{DiskId}
use Rattle.mig_drain.specs.Showing.{IsShown}
use Rattle.mig_drain.specs.declared.drained.Shown.{Shown}
use Rattle.mig_drain.specs.declared.drained.Shown.TheVariants.{Nothing, Others, Own}
use Rattle.mig_numbers.specs.Handed.{IsHanded}
use Rattle.mig_numbers.specs.Numbers.{input_of}
use Rattle.mig_numbers.specs.Refusals.{AreThere, IsUnfit}
use Rattle.mig_numbers.specs.declared.numbers.DiskNumbers.{DiskNumbers}
use Rattle.mig_numbers.specs.declared.numbers.DrainNumbers.{DrainNumbers}
use Rattle.mig_numbers.specs.declared.numbers.ItemNumbers.{ItemNumbers}
use Rattle.mig_numbers.specs.declared.numbers.Refused.{Refused}
use Rattle.mig_numbers.specs.declared.numbers.Unmade.{Unmade}
use Rattle.mig_numbers.specs.declared.numbers.Unmade.TheVariants.{Impossible, Unfit}

-- These next disks empty the disk. Each plan for them has so many rounds, and no next disks that empty it need fewer, which this shows
pub record IsDrain (input : InputLists) (v : ℕ) (next : List DiskId) (rounds : ℕ) (shown : Shown) : Type 0 where
  pub empties : Empties input v next
  pub planned : PlansHave (with_next input next) rounds
  pub needed : NeedsToEmpty input v rounds
  pub fewest : AreFewest input v rounds
  pub dealt : AreDealt input v (places input v rounds) next
  pub shows : IsShown input v rounds shown

-- the numbers of what shows it
abbrev pub drain_of : ℕ → Shown → DrainNumbers
drain_of rounds Nothing = record { rounds = rounds; shown = 0; count = 0; limit = 0 }
drain_of rounds (Own load limit) = record { rounds = rounds; shown = 1; count = load; limit = limit }
drain_of rounds (Others room) = record { rounds = rounds; shown = 2; count = room; limit = 0 }

-- such next disks of the input that the numbers stand for are handed back
pub record HandsDrain (split : Bool) (disks : List DiskNumbers) (items : List ItemNumbers) (v : ℕ) (old next : List ℕ)
    (drained : DrainNumbers) : Type 0 where
  pub there : AreThere split disks items
  pub targets : List DiskId
  pub rounds : ℕ
  pub shown : Shown
  pub drains : IsDrain (input_of split disks items) v targets rounds shown
  pub in_next : IsHanded (numbers targets) old next (length items)
  pub drained_is : drained ≡ drain_of rounds shown

-- the disk isn't there (4), or has more items than the others have free slots, with both numbers (8)
abbrev pub CantDrain : InputLists → ℕ → Refused → Type 0
CantDrain input v refused = (refused.place ≡ v) × (((refused.cause ≡ 4) × (length input.disks ≤ v))
    ⊎ ((refused.cause ≡ 8) × (refused.needs ≡ present input v) × (refused.has ≡ free_elsewhere input v) × (refused.has < refused.needs)))

-- why there are no next disks: the numbers are refused, or the disk can't be emptied
abbrev pub IsUndrained : Bool → List DiskNumbers → List ItemNumbers → ℕ → Unmade → Type 0
IsUndrained split disks items v (Unfit why) = IsUnfit split disks items why
IsUndrained split disks items v (Impossible refused) = AreThere split disks items × CantDrain (input_of split disks items) v refused

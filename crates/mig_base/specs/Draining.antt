-- Next disks that empty a disk, and the fewest rounds that any such next disks need.
use Rattle.std.specs.Prelude.{◌≡◌, ◌≢◌, ◌==◌, ◌-◌, ◌*◌, ◌≤◌, ◌<◌, ℕ, Bool, not, min, List, length, All, filter, count_by, sum_by, replicate, take, slice_index_or}
use Rattle.std.specs.List.{flat_map, range_with_len}
use Rattle.mig_base.specs.declared.ids.DiskId.{DiskId}
use Rattle.mig_base.specs.declared.ids.Shift.{Shift}
use Rattle.mig_base.specs.declared.certs.Side.TheVariants.{Outgoing, Incoming}
use Rattle.mig_base.specs.InputLists.{InputLists, disk_at}
use Rattle.mig_base.specs.Transfers.{div_ceil, side_limit, source, target}
use Rattle.mig_base.specs.Targets.{IsRoomy, present}
use Rattle.mig_base.specs.Schedules.{Needs}
use Rattle.mig_base.specs.MadePlans.{IsPlanOf}

-- the input with these next disks
abbrev pub with_next : InputLists → List DiskId → InputLists
with_next input next = record { disks = input.disks; items = input.items; spots = input.spots; next = next }

-- each item has a next disk, which is there and isn't this one, and each disk has room for what comes to it
pub record Empties (input : InputLists) (v : ℕ) (next : List DiskId) : Type 0 where
  pub len : length next ≡ length input.items
  pub there : All (λ disk. disk.0 < length input.disks) next
  pub leaves : All (λ disk. disk.0 ≢ v) next
  pub roomy : IsRoomy (with_next input next)

-- every schedule that obeys, for any next disks that empty the disk, has at least so many rounds
abbrev pub NeedsToEmpty : InputLists → ℕ → ℕ → Type 0
NeedsToEmpty input v rounds = (next : List DiskId) → Empties input v next → Needs (with_next input next) rounds

-- each plan that is made for the input has so many rounds
abbrev pub PlansHave : InputLists → ℕ → Type 0
PlansHave input rounds = (plan : List (List Shift)) → IsPlanOf input plan → length plan ≡ rounds

-- How many rounds are enough

-- how many items may leave a disk in one round, and how many may reach it: its joint limit, or that of the side
abbrev pub outgoing_limit : InputLists → ℕ → ℕ
outgoing_limit input v = side_limit Outgoing (disk_at input.disks v).limits

abbrev pub incoming_limit : InputLists → ℕ → ℕ
incoming_limit input v = side_limit Incoming (disk_at input.disks v).limits

-- the slots of a disk that no item has now
abbrev pub free_slots : InputLists → ℕ → ℕ
free_slots input v = (disk_at input.disks v).slots - present input v

-- the other disks, in the order of their ids
abbrev pub is_other : ℕ → ℕ → Bool
is_other v u = not (u == v)

abbrev pub others : InputLists → ℕ → List ℕ
others input v = filter (is_other v) (range_with_len 0 (length input.disks))

-- the free slots of all other disks together
abbrev pub free_elsewhere : InputLists → ℕ → ℕ
free_elsewhere input v = sum_by (free_slots input) (others input v)

-- how many items a disk can take in so many rounds, and how many all other disks can take together
abbrev pub can_take : InputLists → ℕ → ℕ → ℕ
can_take input rounds u = min (free_slots input u) (rounds * incoming_limit input u)

abbrev pub others_can_take : InputLists → ℕ → ℕ → ℕ
others_can_take input v rounds = sum_by (can_take input rounds) (others input v)

-- the rounds in which all items of the disk can leave it
abbrev pub own_rounds : InputLists → ℕ → ℕ
own_rounds input v = div_ceil (present input v) (outgoing_limit input v)

-- in so many rounds all items of the disk can leave it, and the other disks can take them
pub record AreEnough (input : InputLists) (v rounds : ℕ) : Type 0 where
  pub leave : own_rounds input v ≤ rounds
  pub come : present input v ≤ others_can_take input v rounds

-- and no fewer are enough
pub record AreFewest (input : InputLists) (v rounds : ℕ) : Type 0 where
  pub enough : AreEnough input v rounds
  pub least : (fewer : ℕ) → AreEnough input v fewer → rounds ≤ fewer

-- Where the items go

-- the other disks in the order of their ids, each as often as it can take an item in so many rounds
abbrev pub places : InputLists → ℕ → ℕ → List ℕ
places input v rounds = flat_map (λ u. replicate (can_take input rounds u) u) (others input v)

-- how many items before this one are on the disk
abbrev pub rank : InputLists → ℕ → ℕ → ℕ
rank input v item = count_by (λ spot. spot.disk.0 == v) (take item input.spots)

-- the items of the disk have these as their next disks, in the order of both, and all other items stay where they are
pub record AreDealt (input : InputLists) (v : ℕ) (disks : List ℕ) (next : List DiskId) : Type 0 where
  pub len : length next ≡ length input.items
  pub moved : (item : ℕ) → item < length input.items → source input item ≡ v → target (with_next input next) item ≡ slice_index_or disks (rank input v item) 0
  pub stays : (item : ℕ) → item < length input.items → source input item ≢ v → target (with_next input next) item ≡ source input item

-- The other disks as a list, with what each can take.
use Rattle.std.specs.Prelude.{◌≡◌, ◌==◌, ◌*◌, ◌≤◌, ◌<◌, ℕ, min, List, length, All, map, sum_by, count_by, replicate, slice_index}
use Rattle.std.specs.List.{flat_map}
use Rattle.mig_base.specs.declared.ids.DiskId.{DiskId}
use Rattle.mig_base.specs.declared.ids.Spot.{Spot}
use Rattle.mig_base.specs.InputLists.{InputLists}
use Rattle.mig_base.specs.Draining.{free_slots, incoming_limit, others}
use Rattle.mig_drain.specs.declared.receivers.Receiver.{Receiver}

-- a disk with its free slots, and with how many items may reach it in one round
abbrev pub receiver : InputLists → ℕ → Receiver
receiver input u = record { disk = record { 0 = u }; free = free_slots input u; limit = incoming_limit input u }

-- those of the other disks
abbrev pub receivers_of : InputLists → ℕ → List Receiver
receivers_of input v = map (receiver input) (others input v)

-- how many items one of them can take in so many rounds, and all of them together
abbrev pub takes : ℕ → Receiver → ℕ
takes rounds receiver = min receiver.free (rounds * receiver.limit)

abbrev pub all_take : ℕ → List Receiver → ℕ
all_take rounds list = sum_by (takes rounds) list

-- the free slots of all of them
abbrev pub all_free : List Receiver → ℕ
all_free list = sum_by (λ receiver. receiver.free) list

-- they are few, and their numbers are in range
pub record AreSmall (list : List Receiver) : Type 0 where
  pub few : length list ≤ 1024
  pub free : All (λ receiver. receiver.free ≤ 65536) list
  pub some : All (λ receiver. 1 ≤ receiver.limit) list
  pub most : All (λ receiver. receiver.limit ≤ 1024) list

-- their disks, each as often as it can take an item in so many rounds
abbrev pub receiver_places : ℕ → List Receiver → List DiskId
receiver_places rounds list = flat_map (λ receiver. replicate (takes rounds receiver) receiver.disk) list

-- how many of these spots are on each of so many disks
pub record AreDiskCounts (disks : ℕ) (spots : List Spot) (counts : List ℕ) : Type 0 where
  pub len : length counts ≡ disks
  pub count : (v : ℕ) → v < disks → slice_index counts v ≡ count_by (λ spot. spot.disk.0 == v) spots

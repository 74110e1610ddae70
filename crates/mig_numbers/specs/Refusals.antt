-- What may be wrong with the numbers, in the order in which it is reported.
use Rattle.std.specs.Prelude.{Bool, Contains, List, length, map, slice_index_or, take, ℕ, ◌+◌, ◌<◌, ◌≡◌, ◌≢◌, ◌≤◌, ◌⊎◌}
use Rattle.mig_base.specs.InputLists.{InputLists, IsInRange, disk_at}
use Rattle.mig_base.specs.Targets.{HasRoom, IsRoomy, incoming, present}
use Rattle.mig_base.specs.declared.ids.Spot.{Spot}
use Rattle.mig_base.specs.declared.limits.TheConstants.{MAX_DISKS, MAX_ITEMS, MAX_SLOTS}
use Rattle.mig_numbers.specs.Numbers.{input_of, limits_of, no_numbers, spot_of}
use Rattle.mig_numbers.specs.declared.numbers.DiskNumbers.{DiskNumbers}
use Rattle.mig_numbers.specs.declared.numbers.ItemNumbers.{ItemNumbers}
use Rattle.mig_numbers.specs.declared.numbers.NumbersRefusal.{NumbersRefusal}
use Rattle.mig_numbers.specs.declared.numbers.NumbersRefusal.TheVariants.{Memory, NoRoom, OutOfRange, SlotTaken, SlotTooHigh, TooManyDisks, TooManyItems, UnknownDisk, UnknownNext}
use Rattle.mig_numbers.specs.declared.numbers.Refused.{Refused}

-- there are few enough
pub record AreFew (disks : List DiskNumbers) (items : List ItemNumbers) : Type 0 where
  pub few_disks : length disks ≤ MAX_DISKS
  pub few_items : length items ≤ MAX_ITEMS

abbrev pub IsSizeFault : List DiskNumbers → List ItemNumbers → NumbersRefusal → Type 0
IsSizeFault disks items TooManyDisks = MAX_DISKS < length disks
IsSizeFault disks items TooManyItems = (length disks ≤ MAX_DISKS) × (MAX_ITEMS < length items)
IsSizeFault disks items _ = ⊥

-- a disk's limits and slots are in range
abbrev pub IsDiskSound : Bool → DiskNumbers → Type 0
IsDiskSound split d = IsInRange (limits_of split d) × (1 ≤ d.slots) × (d.slots ≤ MAX_SLOTS)

abbrev pub AreDisksSound : Bool → List DiskNumbers → ℕ → Type 0
AreDisksSound split disks n = (k : ℕ) (d : DiskNumbers) → k < n → IsDiskSound split (slice_index_or disks k d)

-- the first disk for which that isn't so
abbrev pub IsDiskFault : Bool → List DiskNumbers → NumbersRefusal → Type 0
IsDiskFault split disks (OutOfRange k) = (k < length disks) × ((d : DiskNumbers) → ¬ IsDiskSound split (slice_index_or disks k d)) × AreDisksSound split disks k
IsDiskFault split disks _ = ⊥

-- an item is in a slot of a disk that is there, where no item before it is, and is to go to a disk that is there
pub record IsItemSound (disks : List DiskNumbers) (taken : List Spot) (item : ItemNumbers) : Type 0 where
  pub on_disk : item.disk < length disks
  pub in_slots : item.slot < (slice_index_or disks item.disk no_numbers).slots
  pub free : ¬ Contains taken (spot_of item)
  pub goes : item.next_disk < length disks

abbrev pub AreItemsSound : List DiskNumbers → List ItemNumbers → ℕ → Type 0
AreItemsSound disks items n = (k : ℕ) (d : ItemNumbers) → k < n → IsItemSound disks (map spot_of (take k items)) (slice_index_or items k d)

-- the cause at an item, by its place; each holds only where those before it don't
abbrev pub IsItemFault : List DiskNumbers → List Spot → ItemNumbers → ℕ → NumbersRefusal → Type 0
IsItemFault disks taken item i (UnknownDisk k) = (k ≡ i) × (length disks ≤ item.disk)
IsItemFault disks taken item i (SlotTooHigh k) = (k ≡ i) × (item.disk < length disks) × ((slice_index_or disks item.disk no_numbers).slots ≤ item.slot)
IsItemFault disks taken item i (SlotTaken k) = (k ≡ i) × (item.disk < length disks) × (item.slot < (slice_index_or disks item.disk no_numbers).slots) × Contains taken (spot_of item)
IsItemFault disks taken item i (UnknownNext k) = (k ≡ i) × (item.disk < length disks) × (item.slot < (slice_index_or disks item.disk no_numbers).slots) × (¬ Contains taken (spot_of item)) × (length disks ≤ item.next_disk)
IsItemFault disks taken item i _ = ⊥

-- the first item at which there is one
pub record IsFirstItemFault (disks : List DiskNumbers) (items : List ItemNumbers) (why : NumbersRefusal) : Type 0 where
  pub item : ℕ
  pub within : item < length items
  pub before : AreItemsSound disks items item
  pub holds : (d : ItemNumbers) → IsItemFault disks (map spot_of (take item items)) (slice_index_or items item d) item why

-- the first disk that lacks room for the items that are on it and those that come to it, with how many slots it needs and has
abbrev pub IsRoomFault : InputLists → NumbersRefusal → Type 0
IsRoomFault input (NoRoom k needs slots) = (k < length input.disks) × (needs ≡ present input k + incoming input k) × (slots ≡ (disk_at input.disks k).slots) × (slots < needs) × ((j : ℕ) → j < k → HasRoom input j)
IsRoomFault input _ = ⊥

-- the numbers stand for an input with room on each disk
pub record AreSound (split : Bool) (disks : List DiskNumbers) (items : List ItemNumbers) : Type 0 where
  pub few : AreFew disks items
  pub disks_sound : AreDisksSound split disks (length disks)
  pub items_sound : AreItemsSound disks items (length items)
  pub roomy : IsRoomy (input_of split disks items)

-- and the same where nothing is said of room
abbrev pub AreThere : Bool → List DiskNumbers → List ItemNumbers → Type 0
AreThere split disks items = AreFew disks items × AreDisksSound split disks (length disks) × AreItemsSound disks items (length items)

-- it is the first thing that is wrong with the numbers: in their sizes, then in the disks, then in the items; or memory is wanting
abbrev pub IsUnfit : Bool → List DiskNumbers → List ItemNumbers → NumbersRefusal → Type 0
IsUnfit split disks items why = (why ≡ Memory) ⊎ IsSizeFault disks items why
    ⊎ (AreFew disks items × IsDiskFault split disks why)
    ⊎ (AreFew disks items × AreDisksSound split disks (length disks) × IsFirstItemFault disks items why)

-- or, where nothing else is wrong, in the room of the disks
abbrev pub IsNumbersRefusal : Bool → List DiskNumbers → List ItemNumbers → NumbersRefusal → Type 0
IsNumbersRefusal split disks items why = IsUnfit split disks items why ⊎ (AreThere split disks items × IsRoomFault (input_of split disks items) why)

-- the numbers of a refusal
abbrev pub refused_of : NumbersRefusal → Refused
refused_of TooManyDisks = record { cause = 1; place = 0; needs = 0; has = 0 }
refused_of TooManyItems = record { cause = 2; place = 0; needs = 0; has = 0 }
refused_of (OutOfRange disk) = record { cause = 3; place = disk; needs = 0; has = 0 }
refused_of (UnknownDisk item) = record { cause = 4; place = item; needs = 0; has = 0 }
refused_of (SlotTooHigh item) = record { cause = 5; place = item; needs = 0; has = 0 }
refused_of (SlotTaken item) = record { cause = 6; place = item; needs = 0; has = 0 }
refused_of (UnknownNext item) = record { cause = 7; place = item; needs = 0; has = 0 }
refused_of (NoRoom disk needs slots) = record { cause = 8; place = disk; needs = needs; has = slots }
refused_of Memory = record { cause = 0; place = 0; needs = 0; has = 0 }

-- these are the numbers of the first thing that is wrong, with room and without
abbrev pub Refuses : Bool → List DiskNumbers → List ItemNumbers → Refused → Type 0
Refuses split disks items refused = (why : NumbersRefusal) × IsNumbersRefusal split disks items why × (why ≢ Memory) × (refused ≡ refused_of why)

abbrev pub RefusesUnfit : Bool → List DiskNumbers → List ItemNumbers → Refused → Type 0
RefusesUnfit split disks items refused = (why : NumbersRefusal) × IsUnfit split disks items why × (why ≢ Memory) × (refused ≡ refused_of why)

-- The input that numbers stand for.
use Rattle.std.specs.Prelude.{Bool, List, length, map, slice_index_or, codes, ℕ, ◌++◌, true, false}
use Rattle.std.specs.Fmt.{decimal}
use Rattle.std.specs.List.{range_with_len}
use Rattle.mig_base.specs.InputLists.{InputLists}
use Rattle.mig_base.specs.declared.ids.DiskId.{DiskId}
use Rattle.mig_base.specs.declared.ids.Spot.{Spot}
use Rattle.mig_base.specs.declared.inputs.Disk.{Disk}
use Rattle.mig_base.specs.declared.inputs.Limits.{Limits}
use Rattle.mig_base.specs.declared.inputs.Limits.TheVariants.{Joint, Split}
use Rattle.mig_gen.specs.MadeCases.{made_item}
use Rattle.mig_numbers.specs.declared.numbers.DiskNumbers.{DiskNumbers}
use Rattle.mig_numbers.specs.declared.numbers.ItemNumbers.{ItemNumbers}

-- the limits of a disk: its first number, or its first two
abbrev pub limits_of : Bool → DiskNumbers → Limits
limits_of false d = Joint d.out_limit
limits_of true d = Split d.out_limit d.in_limit

-- the spot where an item is, and the disk that it is to go to
abbrev pub spot_of : ItemNumbers → Spot
spot_of item = record { disk = record { 0 = item.disk }; slot = item.slot }

abbrev pub next_of : ItemNumbers → DiskId
next_of item = record { 0 = item.next_disk }

-- a disk and an item that aren't there
abbrev pub no_numbers : DiskNumbers
no_numbers = record { out_limit = 0; in_limit = 0; slots = 0 }

abbrev pub no_item : ItemNumbers
no_item = record { disk = 0; slot = 0; next_disk = 0 }

-- the disks and the items have names of their places, `d0`, `d1` and so on, `i0`, `i1` and so on; nothing that is promised of a plan speaks of names
abbrev pub disk_by : Bool → DiskNumbers → ℕ → Disk
disk_by split d k = record { name = codes "d" ++ decimal k; limits = limits_of split d; slots = d.slots }

abbrev pub disk_in : Bool → List DiskNumbers → ℕ → Disk
disk_in split disks k = disk_by split (slice_index_or disks k no_numbers) k

-- the input: each disk has its limits and its slots, each item its spot and its next disk, at their places
abbrev pub input_of : Bool → List DiskNumbers → List ItemNumbers → InputLists
input_of split disks items = record {
  disks = map (disk_in split disks) (range_with_len 0 (length disks));
  items = map made_item (range_with_len 0 (length items));
  spots = map spot_of items;
  next = map next_of items;
}

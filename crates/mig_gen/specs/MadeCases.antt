-- The migration that is made from three numbers: so many disks of one limit, and so many items for each disk to each other disk.
use Rattle.std.specs.Prelude.{ℕ, ◌+◌, ◌-◌, ◌*◌, ◌≤◌, List, ◌++◌, codes, map, replicate}
use Rattle.std.specs.List.{flat_map, range_with_len}
use Rattle.std.specs.Fmt.{decimal}
use Rattle.mig_base.specs.declared.ids.DiskId.{DiskId}
use Rattle.mig_base.specs.declared.ids.Spot.{Spot}
use Rattle.mig_base.specs.declared.inputs.Disk.{Disk}
use Rattle.mig_base.specs.declared.inputs.Limits.TheVariants.{Joint}
use Rattle.mig_base.specs.declared.limits.TheConstants.{MAX_DISKS, MAX_ITEMS, MAX_LIMIT}
use Rattle.mig_base.specs.InputLists.{InputLists}

-- which numbers make a case: 2 to `MAX_DISKS` disks, an item at least for each pair, at most `MAX_ITEMS` items in all, and a limit of 1 to
-- `MAX_LIMIT`
pub record IsCaseSize (disks per_pair limit : ℕ) : Type 0 where
  pub some_disks : 2 ≤ disks
  pub few_disks : disks ≤ MAX_DISKS
  pub some_items : 1 ≤ per_pair
  pub few_items : disks * (disks - 1) * per_pair ≤ MAX_ITEMS
  pub some_limit : 1 ≤ limit
  pub low_limit : limit ≤ MAX_LIMIT

-- how many items are on each disk
abbrev pub items_on : ℕ → ℕ → ℕ
items_on disks per_pair = (disks - 1) * per_pair

-- the disk numbered v, `d0`, `d1` and so on: twice as many slots as items
abbrev pub made_disk : ℕ → ℕ → ℕ → Disk
made_disk limit slots v = record { name = codes "d" ++ decimal v; limits = Joint limit; slots = slots }

-- the item numbered i, `i0`, `i1` and so on
abbrev pub made_item : ℕ → List ℕ
made_item i = codes "i" ++ decimal i

-- the items of a disk are in its first slots, in order
abbrev pub spots_on : ℕ → ℕ → List Spot
spots_on items v = map (λ slot. record { disk = record { 0 = v }; slot = slot }) (range_with_len 0 items)

-- the disks other than v, in order
abbrev pub disks_besides : ℕ → ℕ → List ℕ
disks_besides disks v = range_with_len 0 v ++ range_with_len (v + 1) (disks - (v + 1))

-- the items of a disk go to each other disk in order, so many to each
abbrev pub next_from : ℕ → ℕ → ℕ → List DiskId
next_from disks per_pair v = flat_map (λ w. replicate per_pair (record { 0 = w })) (disks_besides disks v)

-- the disks, and the items disk by disk
abbrev pub case_of : ℕ → ℕ → ℕ → InputLists
case_of disks per_pair limit = record {
  disks = map (made_disk limit (2 * items_on disks per_pair)) (range_with_len 0 disks);
  items = map made_item (range_with_len 0 (disks * items_on disks per_pair));
  spots = flat_map (spots_on (items_on disks per_pair)) (range_with_len 0 disks);
  next = flat_map (next_from disks per_pair) (range_with_len 0 disks);
}

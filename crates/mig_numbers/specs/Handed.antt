-- What is handed back of a plan.
use Rattle.std.specs.Prelude.{All, Bool, List, [], count_by, filter, if◌then◌else◌, length, map, nat_lt, slice_index_or, suc, ℕ, ◌++◌, ◌+◌, ◌<◌, ◌==◌, ◌∷◌, ◌≡◌, ◌≤◌}
use Rattle.std.specs.List.{flat_map, range_with_len}
use Rattle.mig_base.specs.Bounding.{side_place}
use Rattle.mig_base.specs.DiskNumbers.{numbers}
use Rattle.mig_base.specs.Layouts.{round_at}
use Rattle.mig_base.specs.Schedules.{Needs}
use Rattle.mig_base.specs.Targets.{IsLowestFree}
use Rattle.mig_base.specs.Transfers.{KeepsLimit, Transfer}
use Rattle.mig_base.specs.declared.certs.Bound.{Bound}
use Rattle.mig_base.specs.declared.certs.Bound.TheVariants.{Nothing, OfDisk, OfSet, OfSide}
use Rattle.mig_base.specs.declared.certs.Cert.{Cert}
use Rattle.mig_base.specs.declared.certs.Class.{Class}
use Rattle.mig_base.specs.declared.certs.Class.TheVariants.{Duplex, Even, General}
use Rattle.mig_base.specs.declared.ids.Shift.{Shift}
use Rattle.mig_base.specs.declared.ids.Spot.{Spot}
use Rattle.mig_best.specs.Certified.{IsCertified}
use Rattle.mig_numbers.specs.Numbers.{input_of, limits_of, no_item, no_numbers, spot_of}
use Rattle.mig_numbers.specs.Refusals.{AreSound}
use Rattle.mig_numbers.specs.declared.numbers.DiskNumbers.{DiskNumbers}
use Rattle.mig_numbers.specs.declared.numbers.Found.{Found}
use Rattle.mig_numbers.specs.declared.numbers.ItemNumbers.{ItemNumbers}
use Rattle.mig_numbers.specs.declared.numbers.ShiftNumbers.{ShiftNumbers}

-- The rows of a plan

-- a shift of a round in numbers
abbrev pub row_of : ℕ → Shift → ShiftNumbers
row_of round s = record { item = s.item.0; to_disk = s.to.disk.0; to_slot = s.to.slot; round = round }

-- the shifts of the first rounds, one round after the other, and of all
abbrev pub rows_upto : List (List Shift) → ℕ → List ShiftNumbers
rows_upto plan n = flat_map (λ k. map (row_of (k + 1)) (round_at plan (suc k))) (range_with_len 0 n)

abbrev pub plan_rows : List (List Shift) → List ShiftNumbers
plan_rows plan = rows_upto plan (length plan)

-- What is promised of rows

-- the row is one of this item, one of an item before it, one of this round
abbrev pub is_row_of : ℕ → ShiftNumbers → Bool
is_row_of i row = row.item == i

abbrev pub is_before : ℕ → ShiftNumbers → Bool
is_before i row = nat_lt row.item i

abbrev pub is_in_round : ℕ → ShiftNumbers → Bool
is_in_round r row = row.round == r

-- how many rows an item has: one where it is to go to another disk
abbrev pub rows_for : ItemNumbers → ℕ
rows_for item = if item.disk == item.next_disk then 0 else 1

-- the transfer that a row is, and the spot that it goes to
abbrev pub row_transfer : List ItemNumbers → ShiftNumbers → Transfer
row_transfer items row = record { leaves = (slice_index_or items row.item no_item).disk; reaches = row.to_disk }

abbrev pub row_spot : ShiftNumbers → Spot
row_spot row = record { disk = record { 0 = row.to_disk }; slot = row.to_slot }

-- a row of one of the items, in one of so many rounds, to the lowest slot of the item's next disk that no item is in and that no row of an item before it goes to
pub record IsRow (items : List ItemNumbers) (rows : List ShiftNumbers) (rounds : ℕ) (row : ShiftNumbers) : Type 0 where
  pub item : row.item < length items
  pub from_one : 1 ≤ row.round
  pub in_rounds : row.round ≤ rounds
  pub lowest : IsLowestFree (map spot_of items ++ map row_spot (filter (is_before row.item) rows)) (slice_index_or items row.item no_item).next_disk (row_spot row)

-- each item that is to go to another disk has one row, and no other item has any; and in no round is a disk past its limit
pub record AreRows (split : Bool) (disks : List DiskNumbers) (items : List ItemNumbers) (rows : List ShiftNumbers) (rounds : ℕ) : Type 0 where
  pub each : All (IsRow items rows rounds) rows
  pub once : (i : ℕ) → i < length items → count_by (is_row_of i) rows ≡ rows_for (slice_index_or items i no_item)
  pub limits : (r v : ℕ) → 1 ≤ r → r ≤ rounds → v < length disks → KeepsLimit (limits_of split (slice_index_or disks v no_numbers)) v (map (row_transfer items) (filter (is_in_round r) rows))

-- What is found

-- the numbers of a certificate
abbrev pub class_number : Class → ℕ
class_number Even = 0
class_number General = 1
class_number Duplex = 2

abbrev pub found_by : ℕ → ℕ → ℕ → Bound → Found
found_by rounds quotient class Nothing = record { rounds = rounds; quotient = quotient; class = class; bound = 0; disk = 0; side = 0; load = 0; value = 0 }
found_by rounds quotient class (OfDisk disk load value) = record { rounds = rounds; quotient = quotient; class = class; bound = 1; disk = disk.0; side = 0; load = load; value = value }
found_by rounds quotient class (OfSide disk side load value) = record { rounds = rounds; quotient = quotient; class = class; bound = 2; disk = disk.0; side = side_place side; load = load; value = value }
found_by rounds quotient class (OfSet set inside value) = record { rounds = rounds; quotient = quotient; class = class; bound = 3; disk = 0; side = 0; load = inside; value = value }

abbrev pub found_of : Cert → Found
found_of cert = found_by cert.rounds cert.quotient (class_number cert.class) cert.bound

-- the disks of a bound's set
abbrev pub set_in : Bound → List ℕ
set_in (OfSet set inside value) = numbers set
set_in _ = []

-- The numbers are sound, and there is a plan for the input that they stand for, as is promised of the best one, with its certificate. The rows are its shifts, round
-- by round; they keep the rules that are said of rows, and every schedule needs as many rounds as the value says.
pub record IsPlanned (split : Bool) (disks : List DiskNumbers) (items : List ItemNumbers) (rows : List ShiftNumbers) (set : List ℕ) (found : Found) : Type 0 where
  pub sound : AreSound split disks items
  pub rounds : List (List Shift)
  pub certificate : Cert
  pub certified : IsCertified (input_of split disks items) rounds certificate
  pub rows_are : rows ≡ plan_rows rounds
  pub set_is : set ≡ set_in certificate.bound
  pub found_is : found ≡ found_of certificate
  pub keeps : AreRows split disks items rows found.rounds
  pub needs : Needs (input_of split disks items) found.value

-- these elements over what stood there before, as far as they fit
abbrev pub covered : {X : Type 0} → List X → List X → List X
covered [] xs = []
covered (o ∷ old) [] = o ∷ old
covered (o ∷ old) (x ∷ xs) = x ∷ covered old xs

-- a list stands in a slice, as far as it fits, over what stood there before, and the count is its length
pub record IsHanded {X : Type 0} (xs old new : List X) (count : ℕ) : Type 0 where
  pub held : new ≡ covered old xs
  pub count_is : count ≡ length xs

-- a plan's rows and the disks of its bound's set are handed back; there are no more rows than items
pub record HandsPlan (split : Bool) (disks : List DiskNumbers) (items : List ItemNumbers) (old_shifts shifts : List ShiftNumbers) (count : ℕ) (old_set set : List ℕ) (set_count : ℕ) (found : Found) : Type 0 where
  pub rows : List ShiftNumbers
  pub within : List ℕ
  pub planned : IsPlanned split disks items rows within found
  pub in_shifts : IsHanded rows old_shifts shifts count
  pub in_set : IsHanded within old_set set set_count
  pub few : count ≤ length items

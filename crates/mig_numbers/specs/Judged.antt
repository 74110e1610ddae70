-- What shifts over numbers spell, and what a check says of them.
use Rattle.std.specs.Prelude.{AllPairs, Bool, List, filter, if◌then◌else◌, length, map, slice_index_or, ℕ, ◌+◌, ◌<◌, ◌==◌, ◌≡◌, ◌≤◌, ◌⊎◌}
use Rattle.std.specs.List.{range_with_len}
use Rattle.mig_base.specs.Bounding.{bound_value}
use Rattle.mig_base.specs.Certificates.{CertFits, CertHolds}
use Rattle.mig_base.specs.InputLists.{InputLists}
use Rattle.mig_base.specs.Judging.{FirstBlame}
use Rattle.mig_base.specs.Running.{Once, Runs}
use Rattle.mig_base.specs.Schedules.{Needs}
use Rattle.mig_base.specs.declared.blames.Blame.{Blame}
use Rattle.mig_base.specs.declared.blames.Blame.TheVariants.{ClassDiffers, EmptyRound, LoadDiffers, Memory, MovedTooOften, NotHere, OverLimit, QuotientDiffers, RoundsDiffer, SlotNotFree, TwiceInRound, ValueDiffers, WrongEnd}
use Rattle.mig_base.specs.declared.certs.Bound.{Bound}
use Rattle.mig_base.specs.declared.certs.Bound.TheVariants.{Nothing, OfDisk, OfSet, OfSide}
use Rattle.mig_base.specs.declared.certs.Cert.{Cert}
use Rattle.mig_base.specs.declared.certs.Class.{Class}
use Rattle.mig_base.specs.declared.certs.Class.TheVariants.{Duplex, Even, General}
use Rattle.mig_base.specs.declared.certs.Side.{Side}
use Rattle.mig_base.specs.declared.certs.Side.TheVariants.{Incoming, Outgoing}
use Rattle.mig_base.specs.declared.ids.DiskId.{DiskId}
use Rattle.mig_base.specs.declared.ids.Shift.{Shift}
use Rattle.mig_base.specs.declared.inputs.Disk.{Disk}
use Rattle.mig_base.specs.declared.inputs.Limits.{Limits}
use Rattle.mig_base.specs.declared.limits.TheConstants.{MAX_ROUNDS, MAX_SHIFTS, MAX_SLOTS}
use Rattle.mig_numbers.specs.Handed.{found_of, is_in_round, row_spot}
use Rattle.mig_numbers.specs.Numbers.{input_of, limits_of, next_of, no_item, spot_of}
use Rattle.mig_numbers.specs.Refusals.{AreSound}
use Rattle.mig_numbers.specs.declared.numbers.DiskNumbers.{DiskNumbers}
use Rattle.mig_numbers.specs.declared.numbers.Found.{Found}
use Rattle.mig_numbers.specs.declared.numbers.ItemNumbers.{ItemNumbers}
use Rattle.mig_numbers.specs.declared.numbers.Judged.{Judged}
use Rattle.mig_numbers.specs.declared.numbers.ShiftNumbers.{ShiftNumbers}

-- The plan that rows spell

-- a row's shift, from the spot where the item is in the beginning: a plan that moves each item once has no other
abbrev pub shift_by : List ItemNumbers → ShiftNumbers → Shift
shift_by items row = record { item = record { 0 = row.item }; from = spot_of (slice_index_or items row.item no_item); to = row_spot row }

-- the shifts of the rows in a round, as the rows stand, and the plan of so many rounds
abbrev pub shifts_in : List ItemNumbers → List ShiftNumbers → ℕ → List Shift
shifts_in items rows k = map (shift_by items) (filter (is_in_round (k + 1)) rows)

abbrev pub plan_by : List ItemNumbers → List ShiftNumbers → ℕ → List (List Shift)
plan_by items rows rounds = map (shifts_in items rows) (range_with_len 0 rounds)

-- the row is one of the first `MAX_SHIFTS`; its item and its disk are there, its slot may be, and its round is one of so many
pub record IsRowSound (disks : List DiskNumbers) (items : List ItemNumbers) (rounds place : ℕ) (row : ShiftNumbers) : Type 0 where
  pub few : place < MAX_SHIFTS
  pub item : row.item < length items
  pub disk : row.to_disk < length disks
  pub slot : row.to_slot < MAX_SLOTS
  pub from_one : 1 ≤ row.round
  pub in_rounds : row.round ≤ rounds

abbrev pub AreRowsSound : List DiskNumbers → List ItemNumbers → ℕ → List ShiftNumbers → ℕ → Type 0
AreRowsSound disks items rounds rows n = (k : ℕ) (d : ShiftNumbers) → k < n → IsRowSound disks items rounds k (slice_index_or rows k d)

-- the first row for which that isn't so
pub record IsFirstWrongRow (disks : List DiskNumbers) (items : List ItemNumbers) (rounds : ℕ) (rows : List ShiftNumbers) (k : ℕ) : Type 0 where
  pub within : k < length rows
  pub unsound : (d : ShiftNumbers) → ¬ IsRowSound disks items rounds k (slice_index_or rows k d)
  pub before : AreRowsSound disks items rounds rows k

-- The certificate that what was found spells

abbrev pub class_by : ℕ → Class
class_by n = if n == 0 then Even else (if n == 1 then General else Duplex)

abbrev pub side_by : ℕ → Side
side_by n = if n == 0 then Outgoing else Incoming

abbrev pub disk_id : ℕ → DiskId
disk_id n = record { 0 = n }

abbrev pub bound_by : Found → List ℕ → Bound
bound_by found set = if found.bound == 0 then Nothing else (if found.bound == 1 then OfDisk (disk_id found.disk) found.load found.value
    else (if found.bound == 2 then OfSide (disk_id found.disk) (side_by found.side) found.load found.value else OfSet (map disk_id set) found.load found.value))

abbrev pub cert_by : Found → List ℕ → Cert
cert_by found set = record { rounds = found.rounds; quotient = found.quotient; class = class_by found.class; bound = bound_by found set }

-- the numbers are those of this certificate, which fits the input; a set has each disk once, in the order of their numbers
pub record IsFoundSound (input : InputLists) (set : List ℕ) (found : Found) : Type 0 where
  pub few : found.rounds ≤ MAX_ROUNDS
  pub increasing : AllPairs (λ v w. v < w) set
  pub same : found ≡ found_of (cert_by found set)
  pub fits : CertFits input (cert_by found set)

-- What is said

-- the numbers of a verdict: whether the plan is as short as the bound's value, or what is wrong
abbrev pub says : ℕ → ℕ → ℕ → ℕ → ℕ → Judged
says what round place kept counted = record { what = what; round = round; place = place; kept = kept; counted = counted }

abbrev pub right : Found → Judged
right found = says (if found.rounds == found.value then 0 else 1) 0 0 0 0

abbrev pub blame_by : Blame → Judged
blame_by (EmptyRound r) = says 2 r 0 0 0
blame_by (NotHere r item) = says 3 r item.0 0 0
blame_by (TwiceInRound r item) = says 4 r item.0 0 0
blame_by (SlotNotFree r item) = says 5 r item.0 0 0
blame_by (OverLimit r disk count) = says 6 r disk.0 0 count
blame_by (WrongEnd item) = says 7 0 item.0 0 0
blame_by (MovedTooOften item count) = says 8 0 item.0 0 count
blame_by (RoundsDiffer kept counted) = says 9 0 0 kept counted
blame_by (QuotientDiffers kept counted) = says 10 0 0 kept counted
blame_by ClassDiffers = says 11 0 0 0 0
blame_by (LoadDiffers kept counted) = says 12 0 0 kept counted
blame_by (ValueDiffers kept counted) = says 13 0 0 kept counted
blame_by Memory = says 0 0 0 0 0

-- the numbers are sound, and spell a plan and a certificate
pub record AreSpelled (split : Bool) (disks : List DiskNumbers) (items : List ItemNumbers) (rows : List ShiftNumbers) (set : List ℕ) (found : Found) : Type 0 where
  pub sound : AreSound split disks items
  pub found_sound : IsFoundSound (input_of split disks items) set found
  pub rows_sound : AreRowsSound disks items found.rounds rows (length rows)

-- the limits of a disk, and how many slots it has
abbrev pub shape : Disk → Limits × ℕ
shape disk = (disk.limits, disk.slots)

abbrev pub shape_by : Bool → DiskNumbers → Limits × ℕ
shape_by split d = (limits_of split d, d.slots)

-- the numbers stand for the input, whatever its disks and its items are called
pub record StandFor (split : Bool) (disks : List DiskNumbers) (items : List ItemNumbers) (input : InputLists) : Type 0 where
  pub disks_are : map shape input.disks ≡ map (shape_by split) disks
  pub items_are : length input.items ≡ length items
  pub spots_are : input.spots ≡ map spot_of items
  pub next_are : input.next ≡ map next_of items

-- the plan runs and moves each relocated item once, the certificate holds, and every schedule needs as many rounds as its bound says
pub record HasNoFault (input : InputLists) (plan : List (List Shift)) (cert : Cert) : Type 0 where
  pub runs : Runs input plan
  pub once : Once input plan
  pub holds : CertHolds input plan cert
  pub needs : Needs input (bound_value cert.bound)

-- nothing is wrong, whatever the names
pub record AreRightNumbers (split : Bool) (disks : List DiskNumbers) (items : List ItemNumbers) (rows : List ShiftNumbers) (set : List ℕ) (found : Found) (judged : Judged) : Type 0 where
  pub spelled : AreSpelled split disks items rows set found
  pub faultless : (input : InputLists) → StandFor split disks items input → HasNoFault input (plan_by items rows found.rounds) (cert_by found set)
  pub says : judged ≡ right found

-- this is the first thing that is wrong with the plan, or with what was found, whatever the names
pub record IsBlamed (split : Bool) (disks : List DiskNumbers) (items : List ItemNumbers) (rows : List ShiftNumbers) (set : List ℕ) (found : Found) (judged : Judged) : Type 0 where
  pub spelled : AreSpelled split disks items rows set found
  pub blame : Blame
  pub first : (input : InputLists) → StandFor split disks items input → FirstBlame input (plan_by items rows found.rounds) (cert_by found set) blame
  pub says : judged ≡ blame_by blame

-- what was found is of no certificate, or else the first row that is of no plan is this one
abbrev pub IsUnspelled : Bool → List DiskNumbers → List ItemNumbers → List ShiftNumbers → List ℕ → Found → Judged → Type 0
IsUnspelled split disks items rows set found judged = AreSound split disks items
    × (((¬ IsFoundSound (input_of split disks items) set found) × (judged ≡ says 15 0 0 0 0))
    ⊎ (IsFoundSound (input_of split disks items) set found
    × ((k : ℕ) × IsFirstWrongRow disks items found.rounds rows k × (judged ≡ says 14 0 k 0 0))))

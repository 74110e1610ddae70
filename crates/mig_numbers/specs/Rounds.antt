-- Schedules: a round for each pair of disks, without slots.
use Rattle.std.specs.Prelude.{Bool, List, if◌then◌else◌, length, map, slice_index_or, suc, zero, ℕ, ◌+◌, ◌<◌, ◌≡◌, ◌≤◌, ◌⊎◌}
use Rattle.std.specs.List.{list_any, range_with_len}
use Rattle.mig_base.specs.Layouts.{round_at}
use Rattle.mig_base.specs.Running.{is_of}
use Rattle.mig_base.specs.Schedules.{IsSchedule, Needs, Obeys}
use Rattle.mig_base.specs.declared.certs.Cert.{Cert}
use Rattle.mig_base.specs.declared.ids.Shift.{Shift}
use Rattle.mig_base.specs.declared.limits.TheConstants.{MAX_SLOTS}
use Rattle.mig_best.specs.Certified.{IsCertified}
use Rattle.mig_numbers.specs.Handed.{IsHanded, found_of, set_in}
use Rattle.mig_numbers.specs.Numbers.{input_of}
use Rattle.mig_numbers.specs.Refusals.{AreSound}
use Rattle.mig_numbers.specs.declared.numbers.DiskNumbers.{DiskNumbers}
use Rattle.mig_numbers.specs.declared.numbers.Found.{Found}
use Rattle.mig_numbers.specs.declared.numbers.ItemNumbers.{ItemNumbers}
use Rattle.mig_numbers.specs.declared.numbers.LimitNumbers.{LimitNumbers}
use Rattle.mig_numbers.specs.declared.numbers.PairNumbers.{PairNumbers}

-- disks with as many slots as there may be, and an item for each pair, in the slot of its number: there is room for all, and no two are in one slot
abbrev pub disk_for : LimitNumbers → DiskNumbers
disk_for l = record { out_limit = l.out_limit; in_limit = l.in_limit; slots = MAX_SLOTS }

abbrev pub disks_for : List LimitNumbers → List DiskNumbers
disks_for limits = map disk_for limits

abbrev pub no_pair : PairNumbers
no_pair = record { from = 0; to = 0 }

abbrev pub item_for : List PairNumbers → ℕ → ItemNumbers
item_for pairs k = record { disk = (slice_index_or pairs k no_pair).from; slot = k; next_disk = (slice_index_or pairs k no_pair).to }

abbrev pub items_for : List PairNumbers → List ItemNumbers
items_for pairs = map (item_for pairs) (range_with_len 0 (length pairs))

-- the last of so many rounds of a plan that shifts an item, counted from 1, or 0 where none does
abbrev pub round_in : List (List Shift) → ℕ → ℕ → ℕ
round_in plan zero i = 0
round_in plan (suc k) i = if list_any (is_of i) (round_at plan (suc k)) then k + 1 else round_in plan k i

-- the round of a pair
abbrev pub round_for : List ℕ → ℕ → ℕ
round_for rounds i = slice_index_or rounds i 0

-- There is a plan for these items, as is promised of the best one, with its certificate, and each pair has the round that shifts its item. The rounds are a schedule that keeps
-- each limit; a pair whose ends are one disk has none. Every schedule needs as many rounds as the value says.
pub record IsScheduled (split : Bool) (limits : List LimitNumbers) (pairs : List PairNumbers) (rounds set : List ℕ) (found : Found) : Type 0 where
  pub sound : AreSound split (disks_for limits) (items_for pairs)
  pub plan : List (List Shift)
  pub certificate : Cert
  pub certified : IsCertified (input_of split (disks_for limits) (items_for pairs)) plan certificate
  pub set_is : set ≡ set_in certificate.bound
  pub found_is : found ≡ found_of certificate
  pub each : (i : ℕ) → i < length pairs → round_for rounds i ≡ round_in plan (length plan) i
  pub takes : IsSchedule (input_of split (disks_for limits) (items_for pairs)) found.rounds (round_for rounds)
  pub obeys : Obeys (input_of split (disks_for limits) (items_for pairs)) found.rounds (round_for rounds)
  pub rests : (i : ℕ) → i < length pairs → (slice_index_or pairs i no_pair).from ≡ (slice_index_or pairs i no_pair).to → round_for rounds i ≡ 0
  pub needs : Needs (input_of split (disks_for limits) (items_for pairs)) found.value

-- and the disks of its bound's set are handed back
pub record HandsRounds (split : Bool) (limits : List LimitNumbers) (pairs : List PairNumbers) (rounds old_set set : List ℕ) (set_count : ℕ) (found : Found) : Type 0 where
  pub within : List ℕ
  pub scheduled : IsScheduled split limits pairs rounds within found
  pub in_set : IsHanded within old_set set set_count

-- the cause is one of sizes, of limits, or of the disks of a pair: 1 to 4, or 7
abbrev pub IsOfPairs : ℕ → Type 0
IsOfPairs cause = (cause ≤ 4) ⊎ (cause ≡ 7)

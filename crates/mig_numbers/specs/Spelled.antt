-- Rows that are sorted into rounds.
use Rattle.std.specs.Prelude.{Bool, List, length, slice_index_or, take, ℕ, ◌<◌, ◌≡◌}
use Rattle.std.specs.declared.alloc.Global.{Global}
use Rattle.std.specs.declared.vec.Vec.{Vec}
use Rattle.mig_base.specs.declared.ids.Shift.{Shift}
use Rattle.mig_numbers.specs.Judged.{IsBlamed, IsUnspelled, shifts_in}
use Rattle.mig_numbers.specs.Refusals.{IsNumbersRefusal}
use Rattle.mig_numbers.specs.declared.checking.CheckFault.{CheckFault}
use Rattle.mig_numbers.specs.declared.checking.CheckFault.TheVariants.{Blamed, Refused, Unspelled}
use Rattle.mig_numbers.specs.declared.numbers.DiskNumbers.{DiskNumbers}
use Rattle.mig_numbers.specs.declared.numbers.Found.{Found}
use Rattle.mig_numbers.specs.declared.numbers.ItemNumbers.{ItemNumbers}
use Rattle.mig_numbers.specs.declared.numbers.ShiftNumbers.{ShiftNumbers}

-- the shifts of a round
abbrev pub round_shifts : Vec Shift Global → List Shift
round_shifts round = round.items

-- each of so many rounds has the shifts of the first n rows that are in it
pub record AreSorted (items : List ItemNumbers) (rows : List ShiftNumbers) (rounds n : ℕ) (made : List (Vec Shift Global)) : Type 0 where
  pub len : length made ≡ rounds
  pub each : (k : ℕ) (d : Vec Shift Global) → k < rounds → (slice_index_or made k d).items ≡ shifts_in items (take n rows) k

-- why a plan isn't right: the numbers are refused, or spell none, or something is wrong
abbrev pub IsCheckFault : Bool → List DiskNumbers → List ItemNumbers → List ShiftNumbers → List ℕ → Found → CheckFault → Type 0
IsCheckFault split disks items rows set found (Refused why) = IsNumbersRefusal split disks items why
IsCheckFault split disks items rows set found (Unspelled judged) = IsUnspelled split disks items rows set found judged
IsCheckFault split disks items rows set found (Blamed judged) = IsBlamed split disks items rows set found judged

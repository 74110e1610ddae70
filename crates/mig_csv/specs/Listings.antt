-- What two files list: disks, and where items are.
use Rattle.std.specs.Prelude.{◌≡◌, ⊤, ℕ, List, map}
use Rattle.std.specs.List.{AllZip}
use Rattle.mig_base.specs.InputLists.{InputLists}
use Rattle.mig_base.specs.Refusals.{IsFirstOf, IsSpotNamed}
use Rattle.mig_base.specs.Rows.{disks_of, first, rows_of}
use Rattle.mig_base.specs.declared.faults.FileKind.{FileKind}
use Rattle.mig_base.specs.declared.faults.FileKind.TheVariants as file
use Rattle.mig_base.specs.declared.faults.Why.{Why}
use Rattle.mig_csv.specs.Refusals.{DisksFault, NowFault}
use Rattle.mig_csv.specs.declared.errors.InputError.{InputError}
use Rattle.mig_csv.specs.declared.errors.InputError.TheVariants.{Refused, Memory}

-- the cause holds at the row of one of the two files
abbrev pub ListingFault : (disks now : List ℕ) → FileKind → ℕ → Why → Type 0
ListingFault disks now file.Disks n w = DisksFault disks n w
ListingFault disks now file.Now n w = NowFault (disks_of disks) now n w
ListingFault disks now file.Next n w = ⊥

-- no cause holds, the lists are what the rows list, and each item is to stay on its disk
pub record IsListing (disks_file now_file : List ℕ) (i : InputLists) : Type 0 where
  pub sound : (f : FileKind) (n : ℕ) (w : Why) → ¬ (ListingFault disks_file now_file f n w)
  pub disks : i.disks ≡ disks_of disks_file
  pub items : i.items ≡ map first (rows_of now_file)
  pub spots : AllZip (IsSpotNamed i.disks) (rows_of now_file) i.spots
  pub next : i.next ≡ map (λ spot. spot.disk) i.spots

-- it is the first thing that is wrong with the two files
abbrev pub ListingRefusedAs : (disks now : List ℕ) → FileKind → ℕ → Why → Type 0
ListingRefusedAs disks now f n w = IsFirstOf (ListingFault disks now) f n w

-- a refusal is the first fault of the two files
abbrev pub IsListingRefusal : (disks now : List ℕ) → InputError → Type 0
IsListingRefusal disks now (Refused f n w) = ListingRefusedAs disks now f n w
IsListingRefusal disks now Memory = ⊤

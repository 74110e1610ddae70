-- What a refusal says.
use Rattle.std.specs.Prelude.{◌≡◌, ◌≢◌, ◌≤◌, ◌<◌, ⊤, ℕ, List, Some, length, map, slice_get}
use Rattle.mig_base.specs.declared.limits.TheConstants.{MAX_FILE_BYTES}
use Rattle.mig_base.specs.Refusals.{DisksRowFault, FileFault, IsFirstFault, NextRowFault, NowRowFault, RefusedAs, RefusedTightAs}
use Rattle.mig_base.specs.Rows.{ThreeFiles, first, has_sides, header_row, records_of, spot_in_row}
use Rattle.mig_base.specs.declared.faults.FileKind.{FileKind}
use Rattle.mig_base.specs.declared.faults.FileKind.TheVariants as file
use Rattle.mig_base.specs.declared.faults.Why.{Why}
use Rattle.mig_base.specs.declared.faults.Why.TheVariants as why
use Rattle.mig_base.specs.declared.inputs.Disk.{Disk}
use Rattle.mig_csv.specs.declared.errors.InputError.{InputError}
use Rattle.mig_csv.specs.declared.errors.InputError.TheVariants.{Refused, Memory}

-- a cause holds at a row of a disks file with these bytes
abbrev pub DisksFault : List ℕ → ℕ → Why → Type 0
DisksFault bytes n w = FileFault (λ before. DisksRowFault (has_sides bytes) (map first before)) (header_row file.Disks (has_sides bytes)) bytes n w

-- the same of a now file, beside these disks
abbrev pub NowFault : List Disk → List ℕ → ℕ → Why → Type 0
NowFault disks bytes n w = FileFault (λ before. NowRowFault disks (map first before) (map spot_in_row before)) (header_row file.Now (has_sides bytes)) bytes n w

-- the same of a next file, beside these disks and these items of the now file
abbrev pub NextFault : List Disk → List (List ℕ) → List ℕ → ℕ → Why → Type 0
NextFault disks present bytes n w = FileFault (λ before. NextRowFault disks present (map first before)) (header_row file.Next (has_sides bytes)) bytes n w

-- a refusal names the file and its first fault
abbrev pub IsRefusalOf : FileKind → (ℕ → Why → Type 0) → InputError → Type 0
IsRefusalOf f has (Refused g n w) = (g ≡ f) × IsFirstFault has n w
IsRefusalOf f has Memory = ⊤

-- a file is refused for its length or its header
abbrev pub RefusesHeader : FileKind → List ℕ → InputError → Type 0
RefusesHeader f bytes (Refused g n why.TooLong) = (g ≡ f) × (n ≡ 0) × (MAX_FILE_BYTES < length bytes)
RefusesHeader f bytes (Refused g n why.BadHeader) = (g ≡ f) × (n ≡ 0) × (length bytes ≤ MAX_FILE_BYTES) × (slice_get (records_of bytes) 0 ≢ Some (header_row f (has_sides bytes)))
RefusesHeader f bytes (Refused g n w) = ⊥
RefusesHeader f bytes Memory = ⊤

-- a refusal is the first fault of the three files
abbrev pub IsInputError : ThreeFiles → InputError → Type 0
IsInputError fs (Refused f n w) = RefusedAs fs f n w
IsInputError fs Memory = ⊤

-- the same where nobody asks for room
abbrev pub IsTightRefusal : ThreeFiles → InputError → Type 0
IsTightRefusal fs (Refused f n w) = RefusedTightAs fs f n w
IsTightRefusal fs Memory = ⊤

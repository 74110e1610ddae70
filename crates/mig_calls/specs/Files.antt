-- What the files of a store tell of themselves, and how they change.
use Rattle.std.specs.Prelude.{◌≡◌, ◌⊎◌, ◌+◌, ◌<◌, ◌≤◌, ℕ, Bool, IsTrue, IsFalse, List, slice_index, Result, Ok, Err, IfErr}
use Rattle.mig_base.specs.FaultCounts.{Rose}
use Rattle.mig_calls.specs.declared.places.Place.{Place}
use Rattle.mig_calls.specs.declared.calls.CallError.{CallError}
use Rattle.mig_calls.specs.declared.calls.CallError.TheVariants.{Interrupted, Full, Failed}
use Rattle.mig_calls.specs.declared.calls.Extent.{Extent}
use Rattle.mig_calls.specs.declared.calls.Extent.TheVariants as extent

-- the bytes of each file by their offsets: zeros past its end, and where it isn't there
abbrev pub PlaceBytes : Type 0
PlaceBytes = Place → ℕ → ℕ

-- both have the same bytes but at these offsets
abbrev pub SameFilesBut : (Place → ℕ → Type 0) → PlaceBytes → PlaceBytes → Type 0
SameFilesBut P old new = (place : Place) (i : ℕ) → ¬ P place i → new place i ≡ old place i

abbrev pub NoByte : Place → ℕ → Type 0
NoByte place i = ⊥

-- one of so many bytes of a file, from an offset on
pub record IsWithin (file : Place) (at n : ℕ) (place : Place) (i : ℕ) : Type 0 where
  pub in_file : place ≡ file
  pub from : at ≤ i
  pub below : i < at + n

-- What files tell at one moment.
pub record FilesState : Type 1 where
  -- whether a file's bytes are told
  pub told : Place → Bool
  -- what a read of each byte gives
  pub reads : PlaceBytes
  -- whether a crash now may leave these files; nothing where that isn't told
  pub may_leave : PlaceBytes → Type 0
  -- a clock
  pub moment : ℕ
  -- whether a crash at some moment from this one on, inside calls too, might have left these files
  pub left_since : ℕ → PlaceBytes → Type 0
  -- how often a call has failed, or the store gave up
  pub faults : ℕ
  -- how often the store refused for what it found
  pub refused : ℕ
  -- how often a call was not made, and might be made again
  pub unmade : ℕ
  -- this process may write, and no other
  pub claimed : Bool
  -- the device has the names of all files that are there
  pub named : Bool
  -- whether all that was written to a file was brought to the device, by whatever name
  pub flushed : Place → Bool
  -- no sync has failed since the files were mounted, in whatever process: else the system may call bytes clean that never reached the device
  pub usable : Bool

-- no byte of the file is unsettled: a crash leaves what reads give
abbrev pub IsSettledAt : FilesState → Place → Type 0
IsSettledAt s place = (files : PlaceBytes) → s.may_leave files → (i : ℕ) → files place i ≡ s.reads place i

-- what files always keep
pub record IsFilesState (s : FilesState) : Type 0 where
  -- this moment is one of those since an earlier one
  pub counts_now : (t : ℕ) (files : PlaceBytes) → t ≤ s.moment → s.may_leave files → s.left_since t files
  -- since this moment there is no other
  pub only_now : (files : PlaceBytes) → s.left_since s.moment files → s.may_leave files
  -- what reads give is what a crash may leave, where that is told
  pub reads_left : (files : PlaceBytes) → s.may_leave files → s.may_leave s.reads
  -- nobody may write once a sync has failed
  pub sure : IsTrue s.claimed → IsTrue s.usable
  -- where none has failed a file is settled once the device has its bytes and its name
  pub settled : IsTrue s.usable → IsTrue s.named → (place : Place) → IsTrue (s.flushed place) → IsSettledAt s place

-- the files come by other bytes at these offsets from some that a crash may leave
abbrev pub IsLeftFilesBut : (Place → ℕ → Type 0) → FilesState → PlaceBytes → Type 0
IsLeftFilesBut P s files = (before : PlaceBytes) × s.may_leave before × SameFilesBut P before files

-- From old to new other bytes come in reads at the offsets of P alone, and in what a crash may leave, inside calls too, at those of Q alone.
pub record FilesChange (P Q : Place → ℕ → Type 0) (old new : FilesState) : Type 0 where
  pub told : new.told ≡ old.told
  pub bytes : SameFilesBut P old.reads new.reads
  pub crash : (files : PlaceBytes) → new.may_leave files → IsLeftFilesBut Q old files
  pub later : old.moment ≤ new.moment
  pub refused : old.refused ≤ new.refused
  pub since : (t : ℕ) (files : PlaceBytes) → t ≤ old.moment → new.left_since t files → old.left_since t files ⊎ IsLeftFilesBut Q old files
  pub keeps : (t : ℕ) (files : PlaceBytes) → t ≤ old.moment → old.left_since t files → new.left_since t files
  -- what a crash may leave goes on being told
  pub images : old.may_leave old.reads → new.may_leave new.reads

-- nothing is written
abbrev pub FilesLook : FilesState → FilesState → Type 0
FilesLook = FilesChange NoByte NoByte

-- other bytes come only here
abbrev pub FilesWrite : Place → ℕ → ℕ → FilesState → FilesState → Type 0
FilesWrite file at n = FilesChange (IsWithin file at n) (IsWithin file at n)

-- who may write, and whether a sync has failed, is as it was
pub record KeepsRights (old new : FilesState) : Type 0 where
  pub claimed : new.claimed ≡ old.claimed
  pub usable : new.usable ≡ old.usable

-- so is what the device has of names and bytes
pub record KeepsFlags (old new : FilesState) : Type 0 where
  pub rights : KeepsRights old new
  pub named : new.named ≡ old.named
  pub flushed : new.flushed ≡ old.flushed

-- what the device has of each file's bytes but this one's is as it was
pub record TouchesFile (place : Place) (old new : FilesState) : Type 0 where
  pub others : (other : Place) → ¬ (other ≡ place) → new.flushed other ≡ old.flushed other

-- what the device has it goes on having
abbrev pub KeepsFlushed : FilesState → FilesState → Type 0
KeepsFlushed old new = (place : Place) → IsTrue (old.flushed place) → IsTrue (new.flushed place)

-- the first n of these bytes are the file's, from an offset on
abbrev pub HasBytes : (ℕ → ℕ) → ℕ → ℕ → List ℕ → Type 0
HasBytes file at n bytes = (i : ℕ) → i < n → slice_index bytes i ≡ file (at + i)

-- the file has zeros alone from this offset on
abbrev pub EndsAt : (ℕ → ℕ) → ℕ → Type 0
EndsAt file end = (i : ℕ) → end ≤ i → file i ≡ 0

-- how many bytes the file has
abbrev pub len_of : Extent → ℕ
len_of extent.Absent = 0
len_of (extent.File len) = len
len_of (extent.Device len) = len

-- A call fails only where the count of faults rose, and isn't made only where the count of such calls rose.
abbrev pub IsCallCause : FilesState → FilesState → CallError → Type 0
IsCallCause old new Failed = Rose old.faults new.faults
IsCallCause old new Interrupted = Rose old.unmade new.unmade
IsCallCause old new Full = Rose old.unmade new.unmade

pub record HasCallCause {T : Type 0} (old new : FilesState) (result : Result T CallError) : Type 0 where
  pub later : old.faults ≤ new.faults
  pub more : old.unmade ≤ new.unmade
  pub cause : IfErr result (IsCallCause old new)

-- a sync that fails leaves that it did
abbrev pub StaysUsable : {T : Type 0} → FilesState → FilesState → Result T CallError → Type 0
StaysUsable old new (Ok done) = KeepsRights old new
StaysUsable old new (Err Failed) = IsFalse new.usable
StaysUsable old new (Err Interrupted) = KeepsRights old new
StaysUsable old new (Err Full) = KeepsRights old new

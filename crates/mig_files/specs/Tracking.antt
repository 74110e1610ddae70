-- What the store notes of its files.
use Rattle.std.specs.Prelude.{◌≡◌, ◌+◌, ◌-◌, ◌<◌, ◌≤◌, ℕ, IsTrue, IsFalse, List, Contains, length}
use Rattle.mig_calls.specs.declared.places.Place.{Place}
use Rattle.mig_calls.specs.declared.places.Place.TheVariants.{Disk, Journal}
use Rattle.mig_calls.specs.Files.{FilesState, FilesLook, FilesWrite, KeepsFlags, KeepsFlushed, HasBytes}
use Rattle.mig_files.specs.declared.tracked.Notes.{Notes}

-- What the store notes is true of the files.
pub record IsTracked (t : Notes) (s : FilesState) : Type 0 where
  -- where it notes a sync that failed, a call has
  pub lost : IsTrue t.lost → 0 < s.faults
  -- it notes a claim only where it has it, until a sync fails
  pub claimed : IsFalse t.lost → IsTrue t.claimed → IsTrue s.claimed
  -- where it notes no file that was made, the device has all names
  pub named : IsFalse t.made → IsTrue s.named
  -- all bytes of each disk that isn't dirty were brought to the device
  pub disks : (disk : List ℕ) → ¬ Contains t.dirty disk → IsTrue (s.flushed (Disk disk))
  -- so were all of the journal, unless it is noted as unsynced
  pub journal : IsFalse t.unsynced → IsTrue (s.flushed Journal)

-- nothing changed but what is counted
pub record IsQuiet (old new : FilesState) : Type 0 where
  pub flags : KeepsFlags old new
  pub change : FilesLook old new
  pub later : old.faults ≤ new.faults
  pub more : old.unmade ≤ new.unmade

-- nothing was written, and what is noted is true
pub record IsStep (t : Notes) (old new : FilesState) : Type 0 where
  pub tracked : IsTracked t new
  pub change : FilesLook old new
  pub later : old.faults ≤ new.faults
  pub more : old.unmade ≤ new.unmade

-- no sync failed, and what the device had it has
pub record StaysAlive (t : Notes) (old new : FilesState) : Type 0 where
  pub alive : IsFalse t.lost
  pub flushed : KeepsFlushed old new
  pub claimed : IsTrue old.claimed → IsTrue new.claimed

-- so many tries were not made
pub record HasTried (tries : ℕ) (t : Notes) (old new : FilesState) : Type 0 where
  pub step : IsStep t old new
  pub kept : StaysAlive t old new
  pub counted : tries ≤ new.unmade

-- nothing else is noted differently
pub record SameNotes (t u : Notes) : Type 0 where
  pub claimed : u.claimed ≡ t.claimed
  pub made : u.made ≡ t.made
  pub lost : u.lost ≡ t.lost

-- it is noted that the file is to be synced
abbrev pub IsNoted : Notes → Place → Type 0
IsNoted t (Disk disk) = Contains t.dirty disk
IsNoted t Journal = IsTrue t.unsynced

-- the same where other bytes may have come in one file
pub record IsWriteStep (t : Notes) (file : Place) (at n : ℕ) (old new : FilesState) : Type 0 where
  pub tracked : IsTracked t new
  pub change : FilesWrite file at n old new
  pub later : old.faults ≤ new.faults
  pub more : old.unmade ≤ new.unmade

-- no sync failed
pub record WritesAlive (t : Notes) (old new : FilesState) : Type 0 where
  pub alive : IsFalse t.lost
  pub claimed : IsTrue old.claimed → IsTrue new.claimed

-- so many bytes were read by so many tries
pub record HasReadSome (place : Place) (at done tries : ℕ) (bytes : List ℕ) (old new : FilesState) : Type 0 where
  pub count : done ≤ length bytes
  pub has : IsTrue (old.told place) → HasBytes (old.reads place) at done bytes
  pub quiet : IsQuiet old new
  pub counted : tries ≤ done + new.unmade

-- so many bytes were written by so many tries
pub record HasWrittenSome (place : Place) (at done tries : ℕ) (bytes : List ℕ) (t : Notes) (old new : FilesState) : Type 0 where
  pub count : done ≤ length bytes
  pub has : IsTrue (new.told place) → HasBytes (new.reads place) at done bytes
  pub step : IsWriteStep t place at (length bytes) old new
  pub kept : WritesAlive t old new
  pub counted : tries ≤ done + new.unmade

-- so many dirty disks are synced
pub record HasSyncedSome (count done : ℕ) (t : Notes) (old new : FilesState) : Type 0 where
  pub left : length t.dirty ≤ count - done
  pub step : IsStep t old new
  pub kept : StaysAlive t old new

-- nothing changed
pub record StaysSame (old new : FilesState) : Type 0 where
  pub flushed : new.flushed ≡ old.flushed
  pub claimed : new.claimed ≡ old.claimed

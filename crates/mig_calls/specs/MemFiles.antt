-- A file in memory, and how it changes.
use Rattle.std.specs.Prelude.{ℕ, Bool, true, false, List, [], ◌∷◌, if◌then◌else◌, map}
use Rattle.mig_calls.specs.declared.file_bytes.Byte.{Byte}
use Rattle.mig_calls.specs.declared.mem_file.MemFile.{MemFile}
use Rattle.mig_calls.specs.declared.mem_file.Change.{Change}
use Rattle.mig_calls.specs.declared.mem_file.Change.TheVariants.{Made, Wrote, Synced}
use Rattle.mig_calls.specs.declared.pick.FilePick.{FilePick}
use Rattle.mig_calls.specs.declared.pick.FilePick.TheVariants.{Old, Back}
use Rattle.mig_calls.specs.declared.places.Place.{Place}
use Rattle.mig_calls.specs.Places.{is_place}
use Rattle.mig_calls.specs.FileBytes.{no_byte, byte_at, with_written, settled, settled_as, picked_byte}

-- what is under a name at one moment
pub record FileMoment : Type 0 where
  -- the bytes of the file that has the name, by their offsets
  pub now : ℕ → Byte
  -- those of the files that the device may have under the name instead, the latest first
  pub olds : List (ℕ → Byte)
  -- all that was written to the file was brought to the device
  pub flushed : Bool

-- no file
abbrev pub no_file : FileMoment
no_file = record { now = λ i. no_byte; olds = []; flushed = true }

-- what the program keeps of it
abbrev pub file_moment : MemFile → FileMoment
file_moment f = record { now = byte_at f.now; olds = map byte_at f.olds.items; flushed = f.flushed }

-- a file after values were written to it from an offset on
abbrev pub after_write : ℕ → List ℕ → FileMoment → FileMoment
after_write at values f = record { now = with_written at values f.now; olds = f.olds; flushed = false }

-- a file after a change
abbrev pub changed : Change → FileMoment → FileMoment
changed Made f = record { now = f.now; olds = f.now ∷ f.olds; flushed = f.flushed }
changed (Wrote at values) f = after_write at values f
changed Synced f = record { now = λ i. settled (f.now i); olds = f.olds; flushed = true }

-- a file whose name was brought to the device
abbrev pub with_name : FileMoment → FileMoment
with_name f = record { now = f.now; olds = []; flushed = f.flushed }

-- whether a crash leaves the file that the device had under the name
abbrev pub takes_old : FilePick → Bool
takes_old Old = true
takes_old Back = true
takes_old pick = false

-- the latest of these files, or this one
abbrev pub first_or : (ℕ → Byte) → List (ℕ → Byte) → ℕ → Byte
first_or now [] = now
first_or now (old ∷ olds) = old

-- the file that a crash leaves
abbrev pub left_file : FilePick → FileMoment → ℕ → Byte
left_file pick f = if takes_old pick then first_or f.now f.olds else f.now

-- a file after a crash
abbrev pub crashed : FilePick → FileMoment → FileMoment
crashed pick f = record { now = λ i. settled_as (picked_byte pick i (left_file pick f i)); olds = []; flushed = true }

-- what a list of files shows of one of them
pub record SeenFile : Type 0 where
  pub place : Place
  pub file : FileMoment

abbrev pub seen_file : MemFile → SeenFile
seen_file f = record { place = f.place; file = file_moment f }

abbrev pub seen_files : List MemFile → List SeenFile
seen_files files = map seen_file files

abbrev pub place_of : SeenFile → Place
place_of s = s.place

-- the file of a place, where it is one of these
abbrev pub look : List SeenFile → Place → FileMoment
look [] place = no_file
look (s ∷ seen) place = if is_place s.place place then s.file else look seen place

-- the files, with a change of one of them
abbrev pub change_file : Place → (FileMoment → FileMoment) → (Place → FileMoment) → Place → FileMoment
change_file place change files other = if is_place place other then change (files other) else files other

-- a change of any file
abbrev pub on_file : (FileMoment → FileMoment) → SeenFile → SeenFile
on_file change s = record { place = s.place; file = change s.file }

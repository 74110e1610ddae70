-- What stands under a name while its file is saved, and what a crash may leave of it.
use Rattle.std.specs.Prelude.{◌≡◌, ◌⊎◌, ◌≤◌, ◌++◌, ℕ, Bool, IsTrue, List, length, take, Option, Some}
use Rattle.mig_save.specs.declared.replacing.Unsaved.{Unsaved}
use Rattle.mig_save.specs.declared.replacing.Unsaved.TheVariants.{Unchanged, OldStands, InPart, NewStands}

-- what stands under a name: the bytes of its file, or no file
abbrev pub Content : Type 0
Content = Option (List ℕ)

-- What a name and the new file beside it tell at one moment.
pub record SaveState : Type 1 where
  -- what stands under the name is told: it is a plain file, or none
  pub told : Bool
  -- what stands under the name
  pub stands : Content
  -- whether a crash now may leave this under the name
  pub may_leave : Content → Type 0
  -- a clock
  pub moment : ℕ
  -- whether a crash at some moment from this one on, inside calls too, might have left this under the name
  pub left_since : ℕ → Content → Type 0
  -- the bytes of the new file
  pub beside : List ℕ
  -- the new file is there, and has a name of its own
  pub made : Bool
  -- the device has all bytes of the file that was made
  pub flushed : Bool
  -- the file that was made stands under the name
  pub placed : Bool
  -- the folder can be opened, and so be synced
  pub listed : Bool
  -- how many calls have failed
  pub failures : ℕ

-- what a name always keeps
pub record IsSaveState (s : SaveState) : Type 0 where
  pub counts_now : (t : ℕ) (content : Content) → t ≤ s.moment → s.may_leave content → s.left_since t content
  pub only_now : (content : Content) → s.left_since s.moment content → s.may_leave content

-- From old to new a crash, inside calls too, may leave nothing more under the name than contents of P.
pub record SaveChange (P : Content → Type 0) (old new : SaveState) : Type 0 where
  pub told : new.told ≡ old.told
  pub listed : new.listed ≡ old.listed
  pub crash : (content : Content) → new.may_leave content → old.may_leave content ⊎ P content
  pub later : old.moment ≤ new.moment
  pub since : (t : ℕ) (content : Content) → t ≤ old.moment → new.left_since t content → old.left_since t content ⊎ (old.may_leave content ⊎ P content)
  pub counted : old.failures ≤ new.failures

abbrev pub NoContent : Content → Type 0
NoContent content = ⊥

-- nothing changes under the name
pub record Stays (old new : SaveState) : Type 0 where
  pub stands : new.stands ≡ old.stands
  pub change : SaveChange NoContent old new

-- nothing changes in the new file
pub record KeepsNew (old new : SaveState) : Type 0 where
  pub beside : new.beside ≡ old.beside
  pub made : new.made ≡ old.made
  pub flushed : new.flushed ≡ old.flushed
  pub placed : new.placed ≡ old.placed

-- the new file's bytes, where the device has them
abbrev pub IsNewWhole : SaveState → Content → Type 0
IsNewWhole s content = IsTrue s.flushed → content ≡ Some s.beside

-- these bytes, where it is told
abbrev pub IsBytes : List ℕ → SaveState → Content → Type 0
IsBytes bytes s content = IsTrue s.told → content ≡ Some bytes

-- a crash leaves nothing but what stands under the name
abbrev pub IsContentSettled : SaveState → Type 0
IsContentSettled s = (content : Content) → s.may_leave content → content ≡ s.stands

-- the file that was made has these bytes, stands under the name, and is on the device
pub record IsPlaced (bytes : List ℕ) (old new : SaveState) : Type 0 where
  pub stands : IsTrue old.told → new.stands ≡ Some bytes
  pub placed : IsTrue new.placed
  pub flushed : IsTrue new.flushed

-- so many of the bytes were written into the new file by now
pub record HasWritten (done : ℕ) (bytes : List ℕ) (old new : SaveState) : Type 0 where
  pub count : done ≤ length bytes
  pub beside : IsTrue old.told → new.beside ≡ old.beside ++ take done bytes
  pub made : IsTrue new.made
  pub stays : Stays old new

-- Whatever moment of the call a crash comes at, it leaves under the name what it might have left before, or these bytes, whole.
abbrev pub LeavesOldOrNew : List ℕ → SaveState → SaveState → Type 0
LeavesOldOrNew bytes old new = (content : Content) → new.left_since old.moment content → old.may_leave content ⊎ (content ≡ Some bytes)

-- what stands under the name where a file was not saved
abbrev pub StandsAs : List ℕ → SaveState → SaveState → Unsaved → Type 0
StandsAs bytes old new (Unchanged error) = new.stands ≡ old.stands
StandsAs bytes old new (OldStands error) = new.stands ≡ old.stands
StandsAs bytes old new (InPart error) = ⊥
StandsAs bytes old new (NewStands error) = new.stands ≡ Some bytes

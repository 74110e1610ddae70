-- What the calls do and leave that are made again where they were interrupted.
use Rattle.std.specs.Prelude.{◌≡◌, ◌≤◌, ℕ, Bool, true, false, IsTrue, Result, Ok, Err, ⊤}
use Rattle.mig_calls.specs.declared.places.Place.{Place}
use Rattle.mig_calls.specs.declared.places.Place.TheVariants.{Journal}
use Rattle.mig_calls.specs.declared.calls.CallError.{CallError}
use Rattle.mig_calls.specs.declared.calls.CallError.TheVariants.{Interrupted, Full, Failed}
use Rattle.mig_calls.specs.Files.{FilesState, FilesLook}
use Rattle.mig_files.specs.declared.tries.RetriedCall.{RetriedCall}
use Rattle.mig_files.specs.declared.tries.RetriedCall.TheVariants.{Claim, Sync, SyncNames}

-- the file that the call is about
abbrev pub file_of_retried : RetriedCall → Place
file_of_retried (Sync place) = place
file_of_retried task = Journal

-- what is so once it was made
abbrev pub IsDone : RetriedCall → FilesState → Type 0
IsDone Claim s = IsTrue s.claimed
IsDone (Sync place) s = IsTrue (s.flushed place)
IsDone SyncNames s = IsTrue s.named

-- the file whose bytes the device may lack from then on
abbrev pub Unflushes : RetriedCall → Place → Type 0
Unflushes (Sync place) file = file ≡ place
Unflushes task file = ⊥

-- it makes no file and no name
abbrev pub keeps_names : RetriedCall → Bool
keeps_names (Sync place) = true
keeps_names task = false

-- what it leaves, also where it was not made or failed
pub record Leaves (task : RetriedCall) (old new : FilesState) : Type 0 where
  pub change : FilesLook old new
  pub named : IsTrue (keeps_names task) → new.named ≡ old.named
  pub flushed : (file : Place) → ¬ Unflushes task file → IsTrue (old.flushed file) → IsTrue (new.flushed file)
  pub later : old.faults ≤ new.faults
  pub more : old.unmade ≤ new.unmade

-- who may write may go on
abbrev pub KeepsClaim : FilesState → FilesState → Type 0
KeepsClaim old new = IsTrue old.claimed → IsTrue new.claimed

-- unless the call failed
abbrev pub StaysClaimed : {T : Type 0} → FilesState → FilesState → Result T CallError → Type 0
StaysClaimed old new (Ok done) = KeepsClaim old new
StaysClaimed old new (Err Failed) = ⊤
StaysClaimed old new (Err Interrupted) = KeepsClaim old new
StaysClaimed old new (Err Full) = KeepsClaim old new

-- so many tries were interrupted
pub record WasInterrupted (task : RetriedCall) (tries : ℕ) (old new : FilesState) : Type 0 where
  pub leaves : Leaves task old new
  pub claimed : KeepsClaim old new
  pub counted : tries ≤ new.unmade

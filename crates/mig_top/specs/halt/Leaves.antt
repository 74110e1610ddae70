-- What `halt` leaves in a folder and in a store.
use Rattle.std.specs.Prelude.{List, [], ℕ, ◌≡◌, ◌⊎◌}
use Rattle.mig_top.specs.Common.{BeginsRun, ChangedOnly, Changes, CommandError, Contents, Done, Event, Files, FolderState, HasFound, Image}
use Rattle.mig_top.specs.Common.{IsClosingCell, IsHaltCell, IsHaltSafe, IsHalted, IsSafe, IsSettled, IsTargetOf, Lands, LeavesOnly, Outcome, Refusal}
use Rattle.mig_top.specs.Common.{Rose, Saves, Settles, SettlesTo, State, StoreFault, Task, TaskNames, Tells, flights}
use Rattle.mig_top.specs.Causes.{IsLayoutAfter}
use Rattle.mig_top.specs.Stores.{IsUntouched}
use Rattle.mig_top.specs.carry.Leaves.{ForTask}
use Rattle.mig_top.specs.halt.Looks.{halted_text}
use Rattle.mig_words.specs.Outcomes.{FolderFault, Memory}
use Rattle.mig_words.specs.declared.endings.StoreRefusal.TheVariants as refusal
use Rattle.mig_words.specs.declared.endings.CommandError.TheVariants as ending
use Rattle.mig_top.specs.Calls as calls

-- the file of the layout holds the text of the layout after k rounds, and no other file changed
pub record IsLayoutSaved (task : Task) (layout : List ℕ) (k : ℕ) (old new : Files) : Type 0 where
  pub text : List ℕ
  pub spelled : IsLayoutAfter task.input task.plan k text
  pub saves : Saves layout text old new

-- and so of two states of a folder, as far as files are told
abbrev pub SavesLayout : Task → List ℕ → ℕ → FolderState → FolderState → Type 0
SavesLayout task layout k old new = calls.RelatesFiles old new (IsLayoutSaved task layout k)

-- why the layout wasn't saved
abbrev pub SaveEnds : List ℕ → FolderState → FolderState → CommandError → Type 0
SaveEnds layout old new ending.FolderFault = Rose old.faults new.faults × ChangedOnly layout old new
SaveEnds layout old new ending.Memory = calls.Untouched old new
SaveEnds layout old new _ = ⊥

-- `halt` changes no file but LAYOUT's, and that one only once the journal was found to name the plan
abbrev pub HaltSaves : FolderState → FolderState → List ℕ → Outcome → Type 0
HaltSaves old new layout (Done text) = ChangedOnly layout old new
HaltSaves old new layout FolderFault = ChangedOnly layout old new
HaltSaves old new layout (StoreFault before) = ChangedOnly layout old new
HaltSaves old new layout _ = calls.Untouched old new

-- Once the store is settled each item's contents stand, or closing the plan after n rounds was stopped.
abbrev pub MayHalt : Task → Contents → State → Type 0
MayHalt task contents s = SettlesTo (IsSafe task.input task.plan task.digest contents) s
    ⊎ ((n : ℕ) × SettlesTo (λ image. IsHaltSafe task.input task.plan task.digest contents image n) s)

-- each image that a crash may leave is so
abbrev pub AllMayHalt : Task → Contents → State → Type 0
AllMayHalt task contents s = ((image : Image) → s.may_leave image → IsSafe task.input task.plan task.digest contents image)
    ⊎ ((n : ℕ) × ((image : Image) → s.may_leave image → IsHaltSafe task.input task.plan task.digest contents image n))

-- nothing was written, and each copy that was in flight has ended or none has
abbrev pub IsUnwritten : State → State → Type 0
IsUnwritten old new = IsUntouched old new ⊎ Settles old new

-- the plan was closed in part, after k rounds that were marked
pub record HaltsInPart (task : Task) (old new : State) (k : ℕ) : Type 0 where
  pub found : HasFound task old k
  -- a crash at each moment leaves a migration that may go on after these rounds, or is halted there
  pub safe : (contents : Contents) → Tells (IsHaltCell task.input task.plan) old.reads → MayHalt task contents old
      → LeavesOnly (λ image. IsHaltSafe task.input task.plan task.digest contents image k) old new
  -- and so does a crash now
  pub again : (contents : Contents) → Tells (IsHaltCell task.input task.plan) old.reads → MayHalt task contents old
      → (image : Image) → new.may_leave image → IsHaltSafe task.input task.plan task.digest contents image k
  -- no cell was written but the gate and the named slots that are free then, and no copy began
  pub change : (added : List Event) × BeginsRun (flights old) [] added
      × Changes (λ cell. IsTargetOf (flights old) cell ⊎ IsClosingCell task k cell) (IsClosingCell task k) added old new

-- and it is closed
pub record HaltsAll (task : Task) (old new : State) (k : ℕ) : Type 0 where
  pub part : HaltsInPart task old new k
  pub halted : (contents : Contents) → Tells (IsHaltCell task.input task.plan) old.reads → MayHalt task contents old → IsHalted task.input task.plan contents new.reads k
  pub settled : IsSettled new

-- The layout is saved before the store is written: a fault of the store comes before that, with nothing written and no file changed, or after it. A
-- refusal comes from a store that is settled, and so does what ends the command between.
abbrev pub HaltLeaves : FolderState → FolderState → State → State → TaskNames → List ℕ → Outcome → Type 0
HaltLeaves from to old new names layout (Done text) = ForTask from names (λ task. (k : ℕ) × HaltsAll task old new k × SavesLayout task layout k from to × (text ≡ halted_text task.plan k))
HaltLeaves from to old new names layout (StoreFault before) =
    (Lands old new × calls.Untouched from to) ⊎ ForTask from names (λ task. (k : ℕ) × HaltsInPart task old new k × SavesLayout task layout k from to)
HaltLeaves from to old new names layout FolderFault = IsUnwritten old new
HaltLeaves from to old new names layout Memory = IsUnwritten old new
HaltLeaves from to old new names layout (Refusal refusal.NotStarted) = Settles old new
HaltLeaves from to old new names layout (Refusal (refusal.OtherPlan kept ours)) = Settles old new
HaltLeaves from to old new names layout o = IsUntouched old new

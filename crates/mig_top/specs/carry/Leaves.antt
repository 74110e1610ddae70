-- What `move` and `resume` leave in a store.
use Rattle.std.specs.Prelude.{ℕ, ◌≡◌}
use Rattle.mig_top.specs.Common.{Adds, Carries, Contents, Done, Finishes, FolderState, HasFound, IfSome, IsArrived, IsJobCell, IsPart, IsReached}
use Rattle.mig_top.specs.Common.{IsRun, KeepsHalting, MayBeHalting, Outcome, Refusal, Settles, SettlesTo, State, StoreFault, Task, TaskNames, Tells}
use Rattle.mig_top.specs.Common.{flights, later_rounds}
use Rattle.mig_top.specs.Loads.{FindsTask}
use Rattle.mig_top.specs.Stores.{IsUntouched}
use Rattle.mig_top.specs.carry.Looks.{done_text}
use Rattle.mig_words.specs.declared.endings.StoreRefusal.TheVariants as refusal

-- the four files, where they are told, stand for this task
abbrev pub AreOfTask : FolderState → TaskNames → Task → Type 0
AreOfTask folder names task = IfSome folder.files (λ files. FindsTask files names task)

-- the copies that were in flight ended, and nothing else was done
pub record OnlyLands (task : Task) (old new : State) : Type 0 where
  pub carries : Carries task old new
  pub settles : Settles old new

-- part of it was carried out, after k rounds that were marked before
pub record MovesInPart (task : Task) (old new : State) (k : ℕ) : Type 0 where
  pub carries : Carries task old new
  pub part : Adds (IsPart task old k) old new

-- the same after as many as a resumption finds
abbrev pub ResumesInPart : Task → State → State → Type 0
ResumesInPart task old new = (k : ℕ) × HasFound task old k × MovesInPart task old new k

-- all of it was carried out
pub record MovesAll (task : Task) (old new : State) (k : ℕ) : Type 0 where
  pub carries : Carries task old new
  pub finishes : Finishes task old new k
  pub events : Adds (IsRun (flights old) (later_rounds task k)) old new

-- also where closing the plan early was stopped: no item is lost, and each arrives; a plan that had reached its target stays so
pub record ResumesAll (task : Task) (old new : State) (k : ℕ) : Type 0 where
  pub moves : MovesAll task old new k
  pub halting : KeepsHalting task old new
  pub halted : (contents : Contents) (n : ℕ) → Tells (IsJobCell task.input task.plan) old.reads → MayBeHalting task contents old n → IsArrived task.input task.plan task.digest contents new.reads
  pub kept : (contents : Contents) → Tells (IsJobCell task.input task.plan) old.reads → SettlesTo (IsReached task.input task.plan task.digest contents) old
      → IsReached task.input task.plan task.digest contents new.reads

-- with some task that the files stand for
abbrev pub ForTask : FolderState → TaskNames → (Task → Type 0) → Type 0
ForTask folder names P = (task : Task) × AreOfTask folder names task × P task

-- what `move` and `resume` leave with each outcome; the number of rounds that a resumption found is the one that its text tells
abbrev pub MoveLeaves : FolderState → State → State → TaskNames → Outcome → Type 0
MoveLeaves folder old new names (Done text) = ForTask folder names (λ task. MovesAll task old new 0 × MovesInPart task old new 0)
MoveLeaves folder old new names (StoreFault before) = ForTask folder names (λ task. MovesInPart task old new 0)
MoveLeaves folder old new names (Refusal refusal.NotStarted) = IsUntouched old new
MoveLeaves folder old new names (Refusal r) = ForTask folder names (λ task. OnlyLands task old new)
MoveLeaves folder old new names o = IsUntouched old new

abbrev pub ResumeLeaves : FolderState → State → State → TaskNames → Outcome → Type 0
ResumeLeaves folder old new names (Done text) = ForTask folder names (λ task. (k : ℕ) × ResumesAll task old new k × MovesInPart task old new k × (text ≡ done_text task.plan k))
ResumeLeaves folder old new names (StoreFault before) = ForTask folder names (λ task. ResumesInPart task old new × KeepsHalting task old new)
ResumeLeaves folder old new names o = MoveLeaves folder old new names o

-- What `plan` promises, and what `check` says of what it saved.
use Rattle.std.specs.Prelude.{List, codes, ℕ, ◌≡◌, ◌⊎◌}
use Rattle.mig_top.specs.Common.{Extends, FileKind, Files, InputLists, IsSomeAnd, Names, ThreeFiles, Why, transfer_graph}
use Rattle.mig_base.specs.MadePlans.{Because, Reason}
use Rattle.mig_top.specs.Calls.{Call, FolderFailed, SinkFailed}
use Rattle.mig_top.specs.Loads.{AreRefused, BeginWith, StandsForNone}
use Rattle.mig_top.specs.plan.Leaves.{AreSaved}

-- the files are as they are after a plan for the accepted input, and what was put is the certificate's text
abbrev pub HasPlanned : Call → Names → List ℕ → Files → Files → Type 0
HasPlanned k names cert old new = (text : List ℕ) × AreSaved names cert text old new × Extends text k.before.sink k.after.sink

-- The planning promise. Where the three files are there and neither folder nor sink fails the status is 0, 3 or 7; 3 comes exactly where
-- the files stand for no input, and yields to want of memory alone; and with 0 the files are as above.
pub record PlansWell (k : Call) (files : Files) (names : Names) (cert : List ℕ) (status : ℕ) : Type 0 where
  pub ends : (bodies : ThreeFiles) → BeginWith files names bodies → (FolderFailed k → ⊥) → (SinkFailed k → ⊥) → (status ≡ 0)
      ⊎ (status ≡ 3) ⊎ (status ≡ 7)
  pub refused : status ≡ 3 → (f : FileKind) × (n : ℕ) × (w : Why) × AreRefused files names f n w
  pub refuses : StandsForNone files names → (FolderFailed k → ⊥) → (status ≡ 3) ⊎ (status ≡ 7)
  pub planned : status ≡ 0 → IsSomeAnd k.after.folder.files (HasPlanned k names cert files)

-- What `plan` saved for this input is never blamed or refused, and where there is a reason why as few rounds as the greatest quotient can do it is told to be
-- optimal: where limits are split, where they are even, and where each transfer goes from one side of the disks to the other.
pub record ChecksSaved (k : Call) (input : InputLists) (status : ℕ) : Type 0 where
  pub right : (FolderFailed k → ⊥) → (SinkFailed k → ⊥) → (status ≡ 0) ⊎ (status ≡ 7)
  pub optimal : status ≡ 0 → (why : Reason) → Because why (transfer_graph input) → Extends (codes "optimal\n") k.before.sink k.after.sink

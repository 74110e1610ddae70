-- What a stop of a plan leaves.
use Rattle.std.specs.Prelude.{◌≡◌, true, ℕ, List, [], Some}
use Rattle.mig_base.specs.declared.cells.Event.{Event}
use Rattle.mig_base.specs.Images.{Image}
use Rattle.mig_base.specs.JobCells.{IsJobCell, Tells}
use Rattle.mig_base.specs.RoundEvents.{IsRun}
use Rattle.mig_base.specs.Safety.{Contents, IsSound}
use Rattle.mig_base.specs.Stores.{State}
use Rattle.mig_base.specs.Tasks.{Task}
use Rattle.mig_lanes.specs.LaneSteps.{later_rounds}

-- the job's cells are told, and each image that a crash may leave is safe and clean for these contents
pub record LeavesSound (task : Task) (contents : Contents) (s : State) : Type 0 where
  pub tells : Tells (IsJobCell task.input task.plan) s.reads
  pub sound : (image : Image) → s.may_leave image → IsSound true task.input task.plan task.digest contents image

-- the events since the crash are those of all rounds after the first k
abbrev pub HasResumed : Task → ℕ → State → Type 0
HasResumed task k s = (added : List Event) × IsRun [] (later_rounds task k) added × (s.events ≡ Some added)

-- What is to be carried out: an input, a plan for it, and the digest of its text; and what a job keeps of these.
use Rattle.std.specs.Prelude.{◌≤◌, ℕ, List, length}
use Rattle.mig_base.specs.declared.ids.Shift.{Shift}
use Rattle.mig_base.specs.declared.limits.TheConstants.{MAX_FILE_BYTES, MAX_ROUNDS}
use Rattle.mig_base.specs.InputLists.{InputLists, IsInput}
use Rattle.mig_base.specs.Running.{Runs}
use Rattle.mig_base.specs.Readiness.{shifts_of}

-- an input, a plan for it, and the digest of the plan's text
pub record Task : Type 0 where
  pub input : InputLists
  pub plan : List (List Shift)
  pub digest : List ℕ

-- what every job keeps
pub record IsTask (task : Task) : Type 0 where
  pub valid : IsInput task.input
  pub runs : Runs task.input task.plan
  pub few_rounds : length task.plan ≤ MAX_ROUNDS
  pub few_shifts : length (shifts_of task.plan) ≤ MAX_FILE_BYTES

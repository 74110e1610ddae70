-- How long the text of a plan is that a planner makes.
use Rattle.std.specs.Prelude.{ℕ, ◌≤◌, List, length}
use Rattle.mig_base.specs.declared.limits.TheConstants.{MAX_FILE_BYTES}
use Rattle.mig_base.specs.declared.ids.Shift.{Shift}
use Rattle.mig_base.specs.InputLists.{InputLists, IsInput}
use Rattle.mig_base.specs.Running.{Runs, Once}
use Rattle.mig_base.specs.Texts.{PlanText}

-- the text of a plan that can be carried out and moves each relocated item once has at most `MAX_FILE_BYTES` bytes, and so isn't too long to be read
-- back
abbrev pub PlanTextsAreShort : Type 0
PlanTextsAreShort = (input : InputLists) (plan : List (List Shift)) (bytes : List ℕ) → IsInput input → Runs input plan → Once input plan → PlanText input plan bytes → length bytes ≤ MAX_FILE_BYTES

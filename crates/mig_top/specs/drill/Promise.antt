-- What `drill` promises.
use Rattle.std.specs.Prelude.{length, ℕ, ◌<◌, ◌≡◌, ◌≤◌, ◌⊎◌}
use Rattle.mig_top.specs.Common.{Extends, MAX_DRILL_SHIFTS, Task, drill_text, shifts_of}
use Rattle.mig_top.specs.Calls.{Call, FolderFailed, SinkFailed, Untouched}
use Rattle.mig_top.specs.Stores.{IsUntouched}

-- What `drill` promises for a task. With status 0 what was put is the text of its plan's drill. If nothing fails, the status is 0 or 7 where a drill takes
-- as many shifts as the plan has, and 11 or 7 where it has more; and 11 comes there alone. No file is changed, and nothing is done with the store.
pub record DrillsWell (k : Call) (task : Task) (status : ℕ) : Type 0 where
  pub told : status ≡ 0 → Extends (drill_text task.plan) k.before.sink k.after.sink
  pub drills : length (shifts_of task.plan) ≤ MAX_DRILL_SHIFTS → (FolderFailed k → ⊥) → (SinkFailed k → ⊥) → (status ≡ 0) ⊎ (status ≡ 7)
  pub refuses : MAX_DRILL_SHIFTS < length (shifts_of task.plan) → (FolderFailed k → ⊥) → (SinkFailed k → ⊥) → (status ≡ 11) ⊎ (status ≡ 7)
  pub large : status ≡ 11 → MAX_DRILL_SHIFTS < length (shifts_of task.plan)
  pub files : Untouched k.before.folder k.after.folder
  pub store : IsUntouched k.before.store k.after.store

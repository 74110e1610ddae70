-- What `live` promises.
use Rattle.std.specs.Prelude.{Bool, IsSome, List, [], true, ℕ, ◌++◌, ◌≡◌, ◌⊎◌}
use Rattle.mig_base.specs.Flights.{AreWithinLimits, IsTargetOf}
use Rattle.mig_base.specs.Stores.{Changes}
use Rattle.mig_lanes.specs.LaneSteps.{IsPartOf}
use Rattle.mig_top.specs.Common.{Adds, Contents, Event, Extends, Gate, HasFound, Image, IsHaltCell, IsJobCell, IsReadyIdle, IsSound, SettlesTo, State}
use Rattle.mig_top.specs.Common.{Task, Tells, flights, is_armed, replies}
use Rattle.mig_top.specs.Calls.{Call}
use Rattle.mig_top.specs.carry.InFlight.{IsReadyInFlight}
use Rattle.mig_live.specs.Events.{lone_after}
use Rattle.mig_top.specs.live.Leaves.{WentOn}
use Rattle.mig_top.specs.live.Looks.{HoldsContents, left_text, steps_left}
use Rattle.mig_top.specs.live.Reads.{Scripted}

-- A store that a session of the task, `resume` and `halt` may take up: cells and images are told, each image that a crash may leave holds these contents, left slots are zeros, and one whose
-- gate isn't 1 is ready. Copies may be in flight, within the limits of disks.
pub record MayGoOn (task : Task) (contents : Contents) (s : State) : Type 0 where
  pub ready : IsReadyInFlight task s
  pub cells : Tells (IsHaltCell task.input task.plan) s.reads
  pub sound : (image : Image) → s.may_leave image → IsSound true task.input task.plan task.digest contents image
  pub within : AreWithinLimits task.input.disks (flights s)

-- where the store had P once it was settled, a crash at some moment since leaves what one before might have left, or what has P
abbrev pub LeavesStill : Call → (Image → Type 0) → Type 0
LeavesStill k P = SettlesTo P k.before.store → (image : Image) → k.after.store.left_since k.before.store.moment image → k.before.store.may_leave image ⊎ P image

-- What `live` promises for a task and its script. Cells of the task and images are told.
pub record ServesWell (k : Call) (read : Scripted) (status : ℕ) : Type 0 where
  -- whatever the status: each item is kept, and left slots are zeros where that is asked; a store whose gate isn't 1 stays ready, and a gate that is 1 stays so
  pub safe : (asked : Bool) (contents : Contents) → Tells (IsJobCell read.task.input read.task.plan) k.before.store.reads → LeavesStill k (IsSound asked read.task.input read.task.plan read.task.digest contents)
  pub ready : Tells (IsJobCell read.task.input read.task.plan) k.before.store.reads → LeavesStill k (IsReadyIdle read.task)
  pub stays : LeavesStill k (λ image. is_armed image ≡ true)
  -- no cell but the task's is written; so many rounds were marked, and the events are the first of a run of the copies after these, one by one, within limits
  pub change : (added : List Event) × Changes (λ cell. IsTargetOf (flights k.before.store) cell ⊎ IsJobCell read.task.input read.task.plan cell) (IsJobCell read.task.input read.task.plan) added k.before.store k.after.store
  pub rounds : ℕ
  pub found : HasFound read.task k.before.store rounds
  pub events : Adds (IsPartOf read.task.input.disks (flights k.before.store) (lone_after read.task rounds)) k.before.store k.after.store
  -- what it leaves may be taken up again
  pub again : (contents : Contents) → MayGoOn read.task contents k.before.store → MayGoOn read.task contents k.after.store
  -- with status 0, and with 6, no copy is in flight, and the gate is 1
  pub landed : (status ≡ 0) ⊎ (status ≡ 6) → flights k.after.store ≡ []
  pub armed : (status ≡ 0) ⊎ (status ≡ 6) → IsSome (k.before.store.reads Gate) → (image : Image) → k.after.store.may_leave image → is_armed image ≡ true
  -- with status 0 each read was replied with its item's contents, and then it was put how many steps are left; and the plan was carried out by these steps
  pub told : status ≡ 0 → (asked : Bool) (contents : Contents) → HoldsContents asked read.task contents k.before.store
      → Extends (replies read.task.input contents read.orders ++ left_text (steps_left read rounds)) k.before.sink k.after.sink
  pub went : status ≡ 0 → (contents : Contents) → HoldsContents true read.task contents k.before.store → WentOn read contents k.after.store rounds

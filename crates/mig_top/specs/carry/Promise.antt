-- What `move` and `resume` promise; where copies may be in flight, `InFlight` beside it says what they do besides.
use Rattle.std.specs.Prelude.{Bool, None, Some, false, true, ℕ, length, ◌≡◌, ◌⊎◌}
use Rattle.mig_top.specs.Common.{Contents, Head, Image, IsArrived, IsHaltSafe, IsJobCell, IsReached, IsReady, IsReadyIdle, IsSafe, IsSettled, IsSound}
use Rattle.mig_top.specs.Common.{State, Task, Tells, count_of, is_armed}
use Rattle.mig_mover.specs.Holdings.{IsKept}
use Rattle.mig_top.specs.Calls.{Call, FolderFailed, SinkFailed, StoreFailed, Succeeds}

-- P holds of what reads give, where no copies are told, or of each image that a crash may leave, what reads give among them.
abbrev pub HoldsIn : State → (Image → Type 0) → Type 0
HoldsIn s P = (P s.reads × (s.events ≡ None)) ⊎ (((image : Image) → s.may_leave image → P image) × s.may_leave s.reads)

-- What `move` and `resume` promise for a task, whatever the status, by what is so before. Cells of the task and images are told.
pub record MovesBy (Before : (Image → Type 0) → Type 0) (k : Call) (task : Task) (status : ℕ) : Type 0 where
  -- where each image that a crash may leave in the beginning is safe, and clean too where that is asked, so is each that a crash at some moment since may leave
  pub safe : (asked : Bool) (contents : Contents) → Tells (IsJobCell task.input task.plan) k.before.store.reads → k.before.store.may_leave k.before.store.reads
      → ((image : Image) → k.before.store.may_leave image → IsSound asked task.input task.plan task.digest contents image)
      → (image : Image) → k.after.store.left_since k.before.store.moment image → IsSound asked task.input task.plan task.digest contents image
  -- and so with readiness, of images whose gate isn't 1
  pub ready : Tells (IsJobCell task.input task.plan) k.before.store.reads → k.before.store.may_leave k.before.store.reads → ((image : Image) → k.before.store.may_leave image → IsReadyIdle task image)
      → (image : Image) → k.after.store.left_since k.before.store.moment image → IsReadyIdle task image
  -- once the gate is 1 it stays so
  pub armed : k.before.store.may_leave k.before.store.reads → ((image : Image) → k.before.store.may_leave image → is_armed image ≡ true) → (image : Image)
      → k.after.store.left_since k.before.store.moment image → is_armed image ≡ true
  -- with status 0, and with 6, the target is reached, and a crash leaves what reads give
  pub reached : (status ≡ 0) ⊎ (status ≡ 6) → (contents : Contents) → Tells (IsJobCell task.input task.plan) k.before.store.reads
      → Before (IsSound true task.input task.plan task.digest contents)
      → IsReached task.input task.plan task.digest contents k.after.store.reads
  -- also where slots that were left aren't zeros
  pub arrived : (status ≡ 0) ⊎ (status ≡ 6) → (contents : Contents) → Tells (IsJobCell task.input task.plan) k.before.store.reads
      → Before (IsSafe task.input task.plan task.digest contents)
      → IsArrived task.input task.plan task.digest contents k.after.store.reads
  pub settled : (status ≡ 0) ⊎ (status ≡ 6) → IsSettled k.after.store

abbrev pub MovesWell : Call → Task → ℕ → Type 0
MovesWell k = MovesBy (HoldsIn k.before.store) k

-- where the store is ready, and nothing fails, `move` carries the plan out, unless memory was refused
abbrev pub StartsWell : Call → Task → ℕ → Type 0
StartsWell k task status = Tells (IsJobCell task.input task.plan) k.before.store.reads → HoldsIn k.before.store (IsReady task.input task.plan)
    → (FolderFailed k → ⊥) → (SinkFailed k → ⊥) → (StoreFailed k → ⊥) → (status ≡ 0) ⊎ (status ≡ 7)

-- The cells of the task are told and no copies, and where the journal names it the cells show no ground on which a store refuses to go on.
pub record ShowsNoGround (task : Task) (s : State) : Type 0 where
  pub alone : s.events ≡ None
  pub cells : Tells (IsJobCell task.input task.plan) s.reads
  pub kept : is_armed s.reads ≡ true → s.reads Head ≡ Some task.digest → IsKept task s.reads (count_of (length task.plan) s.reads)

-- the same of `resume`, also where the journal names the plan; where no copies are told it is refused on such a ground alone
abbrev pub ResumesWell : Call → Task → ℕ → Type 0
ResumesWell k task status = Tells (IsJobCell task.input task.plan) k.before.store.reads
    → HoldsIn k.before.store (λ image. IsReadyIdle task image × (is_armed image ≡ true → image Head ≡ Some task.digest))
    → Succeeds k (¬ ShowsNoGround task k.before.store) status

-- no copies are told, and closing the plan after n rounds was stopped while the gate is still 1
abbrev pub IsHalting : Task → State → Contents → ℕ → Type 0
IsHalting task s contents n = (s.events ≡ None) × (is_armed s.reads ≡ true) × HoldsIn s (λ image. IsHaltSafe task.input task.plan task.digest contents image n)

-- `resume` then: no item is lost, whatever the status, and with status 0, and with 6, each has arrived.
pub record ResumesHalting (May : Contents → ℕ → Type 0) (k : Call) (task : Task) (status : ℕ) : Type 0 where
  pub safe : (contents : Contents) (n : ℕ) → Tells (IsJobCell task.input task.plan) k.before.store.reads → May contents n
      → (image : Image) → k.after.store.left_since k.before.store.moment image → k.before.store.may_leave image ⊎ IsSafe task.input task.plan task.digest contents image
  pub arrived : (status ≡ 0) ⊎ (status ≡ 6) → (contents : Contents) (n : ℕ) → Tells (IsJobCell task.input task.plan) k.before.store.reads → May contents n
      → IsArrived task.input task.plan task.digest contents k.after.store.reads

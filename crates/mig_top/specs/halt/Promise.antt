-- What `halt` promises.
use Rattle.std.specs.Prelude.{List, Some, [], true, ℕ, ◌≡◌, ◌⊎◌}
use Rattle.mig_top.specs.Common.{Adds, AreFlights, At, BeginsRun, Contents, Extends, Files, HasFound, Head, Image, IsHaltCell, IsHaltSafe, IsHalted}
use Rattle.mig_top.specs.Common.{IsLeftBut, IsListOf, IsSettled, IsSomeAnd, IsSound, OthersStay, Task, Tells, flights, is_armed}
use Rattle.mig_mover.specs.Holdings.{IsUnrefused}
use Rattle.mig_top.specs.Calls.{Call, Succeeds}
use Rattle.mig_top.specs.Stores.{WroteNothing}
use Rattle.mig_top.specs.halt.Leaves.{AllMayHalt, IsLayoutSaved, MayHalt}
use Rattle.mig_top.specs.halt.Looks.{halted_text}

-- a task over the same disks whose items are now where they are after k rounds
pub record BeginsAfter (task : Task) (k : ℕ) (next : Task) : Type 0 where
  pub disks : next.input.disks ≡ task.input.disks
  pub spots : IsListOf (At task.input task.plan k) next.input.spots

-- What `halt` promises for a task, whatever the status. In the beginning each image that a crash may leave is safe, or closing the plan was stopped.
pub record HaltsWell (k : Call) (files : Files) (task : Task) (layout : List ℕ) (status : ℕ) : Type 0 where
  -- so many rounds were marked
  pub rounds : ℕ
  pub found : HasFound task k.before.store rounds
  -- a crash at some moment since may leave an image of the beginning, or one in which the plan may go on after these rounds or is halted there
  pub safe : (contents : Contents) → Tells (IsHaltCell task.input task.plan) k.before.store.reads → MayHalt task contents k.before.store
      → (image : Image) → k.after.store.left_since k.before.store.moment image → k.before.store.may_leave image ⊎ IsHaltSafe task.input task.plan task.digest contents image rounds
  -- and so `halt` may be called again
  pub again : (contents : Contents) → Tells (IsHaltCell task.input task.plan) k.before.store.reads → k.before.store.may_leave k.before.store.reads
      → AllMayHalt task contents k.before.store → AllMayHalt task contents k.after.store
  -- with status 0, and with 6, the plan is halted after these rounds, and a crash leaves what reads give
  pub halted : (status ≡ 0) ⊎ (status ≡ 6) → (contents : Contents) → Tells (IsHaltCell task.input task.plan) k.before.store.reads → MayHalt task contents k.before.store
      → IsHalted task.input task.plan contents k.after.store.reads rounds
  pub settled : (status ≡ 0) ⊎ (status ≡ 6) → IsSettled k.after.store
  -- the layout there is saved
  pub saved : (status ≡ 0) ⊎ (status ≡ 6) → IsSomeAnd k.after.folder.files (IsLayoutSaved task layout rounds files)
  -- and it is saved before the store is written: nothing was written there, or the layout is saved
  pub first : WroteNothing k.before.store k.after.store ⊎ IsSomeAnd k.after.folder.files (IsLayoutSaved task layout rounds files)
  pub others : IsSomeAnd k.after.folder.files (OthersStay layout files)
  -- no cell was written but those of the journal, and the slots that items have now or that the plan names
  pub cells : (image : Image) → k.after.store.left_since k.before.store.moment image → IsLeftBut (IsHaltCell task.input task.plan) k.before.store image
  -- no copy began, and each that was in flight ended at most once
  pub ended : Adds (BeginsRun (flights k.before.store) []) k.before.store k.after.store
  pub told : status ≡ 0 → Extends (halted_text task.plan rounds) k.before.sink k.after.sink
  -- where the journal names the plan, and nothing fails, the plan is halted, unless memory was refused, or the store refused on a ground that its cells show
  pub halts : AreFlights (flights k.before.store) → is_armed k.before.store.reads ≡ true → k.before.store.reads Head ≡ Some task.digest → Succeeds k (¬ IsUnrefused task k.before.store) status
  -- and a migration that begins at the layout there begins well, whatever its plan
  pub next : (status ≡ 0) ⊎ (status ≡ 6) → (contents : Contents) → Tells (IsHaltCell task.input task.plan) k.before.store.reads → MayHalt task contents k.before.store
      → (begun : Task) → BeginsAfter task rounds begun → IsSound true begun.input begun.plan begun.digest contents k.after.store.reads

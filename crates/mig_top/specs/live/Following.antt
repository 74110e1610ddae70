-- What follows a session: a call of `resume` or `halt`, or another session, of the same task.
use Rattle.std.specs.Prelude.{true, ℕ, ◌++◌, ◌≡◌, ◌⊎◌}
use Rattle.mig_mover.specs.Holdings.{IsUnrefused}
use Rattle.mig_top.specs.Calls.{Call, Succeeds}
use Rattle.mig_top.specs.Common.{Contents, Extends, Image, IsHaltSafe, IsHalted, IsReached, IsSettled, IsSound, Task, replies}
use Rattle.mig_top.specs.halt.Leaves.{AllMayHalt}
use Rattle.mig_top.specs.live.Leaves.{WentOn}
use Rattle.mig_top.specs.live.Looks.{IsServable, left_text, steps_left}
use Rattle.mig_top.specs.live.Promise.{MayGoOn}
use Rattle.mig_top.specs.live.Reads.{Scripted}

-- `resume` loses no item at any moment, and reaches the target
pub record ResumesAfter (k : Call) (task : Task) (contents : Contents) (status : ℕ) : Type 0 where
  pub safe : (image : Image) → k.after.store.left_since k.before.store.moment image → IsSound true task.input task.plan task.digest contents image
  pub reached : (status ≡ 0) ⊎ (status ≡ 6) → IsReached task.input task.plan task.digest contents k.after.store.reads
  pub settled : (status ≡ 0) ⊎ (status ≡ 6) → IsSettled k.after.store
  pub done : Succeeds k (¬ IsUnrefused task k.before.store) status

-- `halt` loses none, halts the plan after the rounds that are marked, and may be called again; it isn't refused where the session had status 0 or 6
pub record HaltsAfter (k : Call) (task : Task) (contents : Contents) (session status rounds : ℕ) : Type 0 where
  pub safe : (image : Image) → k.after.store.left_since k.before.store.moment image → IsSound true task.input task.plan task.digest contents image ⊎ IsHaltSafe task.input task.plan task.digest contents image rounds
  pub halted : (status ≡ 0) ⊎ (status ≡ 6) → IsHalted task.input task.plan contents k.after.store.reads rounds
  pub again : AllMayHalt task contents k.after.store
  pub done : (session ≡ 0) ⊎ (session ≡ 6) → Succeeds k (¬ IsUnrefused task k.before.store) status

-- another session loses none, answers its reads with the same contents, and may be followed in its turn
pub record ServesAfter (k : Call) (read : Scripted) (contents : Contents) (status rounds : ℕ) : Type 0 where
  pub safe : (image : Image) → k.after.store.left_since k.before.store.moment image → IsSound true read.task.input read.task.plan read.task.digest contents image
  pub told : status ≡ 0 → Extends (replies read.task.input contents read.orders ++ left_text (steps_left read rounds)) k.before.sink k.after.sink
  pub went : status ≡ 0 → WentOn read contents k.after.store rounds
  pub again : MayGoOn read.task contents k.after.store
  pub done : Succeeds k (¬ IsServable read k.before.store) status

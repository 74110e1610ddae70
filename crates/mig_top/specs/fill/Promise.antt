-- What `fill` promises.
use Rattle.std.specs.Prelude.{ℕ, ◌≡◌, ◌⊎◌}
use Rattle.mig_top.specs.Common.{InputLists}
use Rattle.mig_mover.specs.Fillings.{WasFillable}
use Rattle.mig_top.specs.Calls.{Call, FolderFailed, SinkFailed, StoreFailed}
use Rattle.mig_top.specs.Stores.{TellsStill}
use Rattle.mig_top.specs.fill.Leaves.{IsFilled}
use Rattle.mig_top.specs.fill.Looks.{IsFillCell}

-- What `fill` promises for a layout: with status 0, and with 6, each item's made slot stands where it is listed, and a crash leaves it; and
-- where the gate isn't 1 and no listed slot is used the status is 0 or 7, if nothing fails.
pub record FillsWell (k : Call) (input : InputLists) (status : ℕ) : Type 0 where
  pub filled : (status ≡ 0) ⊎ (status ≡ 6) → IsFilled input k.before.store k.after.store
  pub fills : TellsStill (IsFillCell input) k.before.store → WasFillable input k.before.store
      → (FolderFailed k → ⊥) → (SinkFailed k → ⊥) → (StoreFailed k → ⊥) → (status ≡ 0) ⊎ (status ≡ 7)

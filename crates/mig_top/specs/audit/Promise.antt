-- What `audit` promises.
use Rattle.std.specs.Prelude.{List, ℕ, ◌≡◌, ◌⊎◌}
use Rattle.mig_top.specs.Common.{Extends, InputLists}
use Rattle.mig_top.specs.Calls.{Call, FolderFailed, SinkFailed, StoreFailed}
use Rattle.mig_top.specs.audit.Sights.{IsAudit}

-- What `audit` promises: with status 0 what was put says of each item whether its slot names it, with the slot's digest, as far as slots are told;
-- and the status is 0 or 7, if nothing fails.
pub record AuditsWell (k : Call) (input : InputLists) (status : ℕ) : Type 0 where
  pub said : status ≡ 0 → (text : List ℕ) × IsAudit input k.before.store text × Extends text k.before.sink k.after.sink
  pub audits : (FolderFailed k → ⊥) → (SinkFailed k → ⊥) → (StoreFailed k → ⊥) → (status ≡ 0) ⊎ (status ≡ 7)

-- What `rehearse` promises.
use Rattle.std.specs.Prelude.{List, ℕ, ◌≡◌, ◌⊎◌}
use Rattle.mig_top.specs.Common.{Extends, InputLists, Rose, SinkState}
use Rattle.mig_top.specs.rehearse.Texts.{IsRehearsed}

-- What `rehearse` promises for the case that its words make, whatever folder and store tell: with status 0 what was put tells the numbers of the
-- case and of a plan that keeps the planning promise, and this plan's digest; and the status is 0 or 7, or 6 where the sink failed.
pub record RehearsesWell (old new : SinkState) (input : InputLists) (status : ℕ) : Type 0 where
  pub ends : (status ≡ 0) ⊎ ((status ≡ 6) × Rose old.faults new.faults) ⊎ (status ≡ 7)
  pub rehearsed : status ≡ 0 → (text : List ℕ) × IsRehearsed input text × Extends text old new

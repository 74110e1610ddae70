-- What `move` and `resume` promise where copies may be in flight.
use Rattle.std.specs.Prelude.{Some, false, true, ℕ, ◌≡◌, ◌⊎◌}
use Rattle.mig_top.specs.Common.{AreFlights, Head, Image, IsJobCell, IsReadyIdle, SettlesTo, State, Task, Tells, flights, is_armed}
use Rattle.mig_mover.specs.Moves.{IsReadyOnceLanded}
use Rattle.mig_top.specs.Calls.{Call, FolderFailed, SinkFailed, StoreFailed, Succeeds}
use Rattle.mig_top.specs.Stores.{TellsStill}
use Rattle.mig_top.specs.carry.Promise.{MovesBy}

-- the premise is one on the store once it is settled
abbrev pub MovesLanding : Call → Task → ℕ → Type 0
MovesLanding k = MovesBy (λ P. SettlesTo P k.before.store) k

-- where what reads give is ready once each copy in flight has ended
abbrev pub StartsLanding : Call → Task → ℕ → Type 0
StartsLanding k task status = TellsStill (IsJobCell task.input task.plan) k.before.store → IsReadyOnceLanded task k.before.store
    → (FolderFailed k → ⊥) → (SinkFailed k → ⊥) → (StoreFailed k → ⊥) → (status ≡ 0) ⊎ (status ≡ 7)

-- the same of `resume`, and of `live`, also where the journal names the plan; a store that may refuse does so only on this ground
abbrev pub ResumesLanding : Call → Task → Type 0 → ℕ → Type 0
ResumesLanding k task Ground status =
    TellsStill (IsJobCell task.input task.plan) k.before.store → IsReadyOnceLanded task k.before.store ⊎
    ((is_armed k.before.store.reads ≡ true) × (k.before.store.reads Head ≡ Some task.digest))
    → Succeeds k Ground status

-- Copies may be in flight: the cells of the task and images are told, and each image that a crash may leave and whose gate isn't 1 is ready.
pub record IsReadyInFlight (task : Task) (store : State) : Type 0 where
  pub cells : Tells (IsJobCell task.input task.plan) store.reads
  pub images : store.may_leave store.reads
  pub slots : AreFlights (flights store)
  pub ready : (image : Image) → store.may_leave image → IsReadyIdle task image

-- then too the plan is carried out, where the gate isn't 1, and by `resume` also where it is and the journal names the plan
abbrev pub StartsInFlight : Call → Task → ℕ → Type 0
StartsInFlight k task status = IsReadyInFlight task k.before.store → is_armed k.before.store.reads ≡ false
    → (FolderFailed k → ⊥) → (SinkFailed k → ⊥) → (StoreFailed k → ⊥) → (status ≡ 0) ⊎ (status ≡ 7)

abbrev pub ResumesInFlight : Call → Task → Type 0 → ℕ → Type 0
ResumesInFlight k task Ground status = IsReadyInFlight task k.before.store → (is_armed k.before.store.reads ≡ true → k.before.store.reads Head ≡ Some task.digest) → Succeeds k Ground status

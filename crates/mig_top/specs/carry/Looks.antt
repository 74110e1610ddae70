-- What `move` and `resume` find in a store, and how that ends them.
use Rattle.std.specs.Prelude.{IsSome, List, [], codes, length, true, ℕ, ◌∷◌, ◌≡◌, ◌≤◌}
use Rattle.mig_top.specs.Common.{AreFlights, Gate, Head, IfSome, Image, IsJobCell, IsRefusal, MoveFault, NotStarted, Shift, Started, State, Task, Tells, count_of, decimal, flights, is_armed, joined}
use Rattle.mig_mover.specs.Moves.{IsReadyOnceLanded, WasReady}
use Rattle.mig_top.specs.Steps.{Step}
use Rattle.mig_top.specs.Stores.{IsShownFault}

-- the causes for which starting a plan is refused, and resuming it
abbrev pub IsStartRefusal : Task → Image → MoveFault → Type 0
IsStartRefusal task image NotStarted = ⊥
IsStartRefusal task image fault = IsRefusal task image fault

abbrev pub IsResumeRefusal : Task → Image → MoveFault → Type 0
IsResumeRefusal task image Started = ⊥
IsResumeRefusal task image NotStarted = ⊥
IsResumeRefusal task image fault = IsRefusal task image fault

-- the store was ready, where its gate is told
abbrev pub IsStartable : Task → State → Type 0
IsStartable task store = AreFlights (flights store) → IsSome (store.reads Gate) → IsReadyOnceLanded task store

-- so many rounds were marked; where the gate was 1 the journal named the plan, and else the store was ready
pub record IsResumable (task : Task) (store : State) (k : ℕ) : Type 0 where
  pub most : k ≤ length task.plan
  pub found : Tells (IsJobCell task.input task.plan) store.reads → AreFlights (flights store) → k ≡ count_of (length task.plan) store.reads
  pub ours : AreFlights (flights store) → IsSome (store.reads Gate) → is_armed store.reads ≡ true → IfSome (store.reads Head) (λ kept. kept ≡ task.digest)
  pub ready : WasReady task store

-- the steps of `move` and `resume` at the store
abbrev pub starts : Task → State → Step (Unit {0})
starts task store = record { Passes = λ _. IsStartable task store; Stops = IsShownFault task.input store (IsStartRefusal task) }

abbrev pub resumes : Task → State → Step ℕ
resumes task store = record { Passes = IsResumable task store; Stops = IsShownFault task.input store (IsResumeRefusal task) }

-- `done R rounds, found k`
abbrev pub done_text : List (List Shift) → ℕ → List ℕ
done_text rounds found = joined (codes "done " ∷ decimal (length rounds) ∷ codes " rounds, found " ∷ decimal found ∷ codes "\n" ∷ [])

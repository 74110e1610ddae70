-- What `halt` finds in a store, and how that ends it.
use Rattle.std.specs.Prelude.{IsSome, List, [], codes, length, true, ℕ, ◌∷◌, ◌≡◌}
use Rattle.mig_top.specs.Common.{AreFlights, Gate, HasFound, Head, IfSome, Image, IsRefusal, MoveFault, NotStarted, OtherPlan, Shift, State, Task}
use Rattle.mig_top.specs.Common.{decimal, flights, is_armed, joined}
use Rattle.mig_top.specs.Steps.{Step}
use Rattle.mig_top.specs.Stores.{IsShownFault}

-- the causes for which it isn't said where a migration stands: the gate isn't 1, or the head is another plan's digest
abbrev pub IsStandRefusal : Task → Image → MoveFault → Type 0
IsStandRefusal task image NotStarted = IsRefusal task image NotStarted
IsStandRefusal task image (OtherPlan kept ours) = IsRefusal task image (OtherPlan kept ours)
IsStandRefusal task image fault = ⊥

-- so many rounds were marked, and the journal named the plan
pub record IsStanding (task : Task) (store : State) (k : ℕ) : Type 0 where
  pub found : HasFound task store k
  pub running : AreFlights (flights store) → IsSome (store.reads Gate) → is_armed store.reads ≡ true
  pub ours : AreFlights (flights store) → IfSome (store.reads Head) (λ kept. kept ≡ task.digest)

-- the step of `halt` at the store
abbrev pub stands : Task → State → Step ℕ
stands task store = record { Passes = IsStanding task store; Stops = IsShownFault task.input store (IsStandRefusal task) }

-- `halted after k of R`
abbrev pub halted_text : List (List Shift) → ℕ → List ℕ
halted_text rounds k = joined (codes "halted after " ∷ decimal k ∷ codes " of " ∷ decimal (length rounds) ∷ codes "\n" ∷ [])

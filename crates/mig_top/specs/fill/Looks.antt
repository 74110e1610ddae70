-- What `fill` finds in a store, and how that ends it.
use Rattle.std.specs.Prelude.{List, [], codes, length, ℕ, ◌∷◌, ◌≡◌, ◌⊎◌}
use Rattle.mig_top.specs.Common.{Cell, Gate, InputLists, IsFillRefusal, IsListedCell, State, decimal, joined}
use Rattle.mig_mover.specs.Fillings.{WasFillable}
use Rattle.mig_top.specs.Steps.{Step}
use Rattle.mig_top.specs.Stores.{IsShownFault}

-- the step of `fill` at the store
abbrev pub fills : InputLists → State → Step (Unit {0})
fills input store = record { Passes = λ _. WasFillable input store; Stops = IsShownFault input store (IsFillRefusal input) }

-- the gate, and the slots where items are listed
abbrev pub IsFillCell : InputLists → Cell → Type 0
IsFillCell input cell = (cell ≡ Gate) ⊎ IsListedCell input cell

-- `filled N`
abbrev pub filled_text : InputLists → List ℕ
filled_text input = joined (codes "filled " ∷ decimal (length input.items) ∷ codes "\n" ∷ [])

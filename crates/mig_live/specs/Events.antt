-- The copies of a session.
use Rattle.std.specs.Prelude.{List, [], drop, flat_map, map, ℕ, ◌++◌, ◌∷◌, ◌≡◌}
use Rattle.mig_base.specs.RoundEvents.{BeginsRun, IsRun, flight_of}
use Rattle.mig_base.specs.Tasks.{Task}
use Rattle.mig_base.specs.declared.cells.Event.{Event}
use Rattle.mig_base.specs.declared.cells.Flight.{Flight}
use Rattle.mig_live.specs.Actions.{Action, Copy}

-- the copies of the rounds after the first k, each a round of its own
abbrev pub lone_after : Task → ℕ → List (List Flight)
lone_after task k = flat_map (λ shifts. map (λ s. flight_of task.input s ∷ []) shifts) (drop k task.plan)

-- those among these steps
abbrev pub lone_copies : List Action → List (List Flight)
lone_copies [] = []
lone_copies (Copy c ∷ actions) = (c ∷ []) ∷ lone_copies actions
lone_copies (_ ∷ actions) = lone_copies actions

-- the events of these steps, and then the first of those of others
abbrev pub IsRunAndPart : List Flight → List Action → List Action → List Event → Type 0
IsRunAndPart before actions others added = (first : List Event) × (rest : List Event) × (added ≡ first ++ rest) × IsRun before (lone_copies actions) first × BeginsRun [] (lone_copies others) rest

-- The steps of a plan, one by one, and what each of them does.
use Rattle.std.specs.Prelude.{◌≡◌, ◌⊎◌, ◌≤◌, ◌++◌, ℕ, suc, List, [], ◌∷◌, IfSome, Result, OnOk, drop, length, map, take}
use Rattle.mig_base.specs.declared.cells.Cell.{Cell}
use Rattle.mig_base.specs.declared.cells.Cell.TheVariants.{Mark}
use Rattle.mig_base.specs.declared.cells.Event.{Event}
use Rattle.mig_base.specs.declared.cells.Flight.{Flight}
use Rattle.mig_base.specs.declared.ids.Shift.{Shift}
use Rattle.mig_base.specs.Flights.{began, ended}
use Rattle.mig_base.specs.Images.{IsCopy}
use Rattle.mig_base.specs.InputLists.{InputLists}
use Rattle.mig_base.specs.Layouts.{round_at}
use Rattle.mig_base.specs.RoundEvents.{flight_of}
use Rattle.mig_base.specs.Slots.{slot_of}
use Rattle.mig_base.specs.Stores.{State, Changes, IsSettled}
use Rattle.mig_base.specs.Tasks.{Task}
use Rattle.mig_live.specs.Sessions.{Session, done_in}
use Rattle.mig_mover.specs.Erasures.{HoldsZeros}

-- what a step does: it copies a slot to another, syncs, sets the mark of a round and syncs, or erases a slot
pub data Action : Type 0 where
  Copy : Flight → Action
  Sync : Action
  SetMark : ℕ → Action
  Erase : Cell → Action

-- the copies of a round with these shifts, and the erasures that follow its mark
abbrev pub copies : InputLists → List Shift → List Action
copies input shifts = map (λ s. Copy (flight_of input s)) shifts

abbrev pub erasures : InputLists → List Shift → List Action
erasures input shifts = map (λ s. Erase (slot_of input s.from)) shifts

-- the steps of the rounds after the first k, in order: of each its copies, a sync, its mark and its erasures; and the last sync
abbrev pub actions_from : InputLists → ℕ → List (List Shift) → List Action
actions_from input k [] = Sync ∷ []
actions_from input k (shifts ∷ rounds) = copies input shifts ++ (Sync ∷ SetMark (suc k) ∷ (erasures input shifts ++ actions_from input (suc k) rounds))

abbrev pub actions_after : Task → ℕ → List Action
actions_after task k = actions_from task.input k (drop k task.plan)

-- the steps from mark k on: the erasures of round k come first
abbrev pub actions_since : Task → ℕ → List Action
actions_since task k = erasures task.input (round_at task.plan k) ++ actions_after task k

-- the steps that are left to a session
abbrev pub actions_left : Session → List Action
actions_left live = drop (done_in live) (actions_since live.task live.marked)

-- the one cell that a step may change
abbrev pub Writes : Action → Cell → Type 0
Writes (Copy c) cell = cell ≡ c.to
Writes Sync cell = ⊥
Writes (SetMark n) cell = cell ≡ Mark n
Writes (Erase slot) cell = cell ≡ slot

-- its events: a copy begins and ends
abbrev pub events_of : Action → List Event
events_of (Copy c) = began c ∷ ended c ∷ []
events_of _ = []

-- the cells and the events of many steps
abbrev pub AllWrite : List Action → Cell → Type 0
AllWrite [] cell = ⊥
AllWrite (a ∷ actions) cell = Writes a cell ⊎ AllWrite actions cell

abbrev pub all_events : List Action → List Event
all_events [] = []
all_events (a ∷ actions) = events_of a ++ all_events actions

-- what a step leaves
abbrev pub StepLeaves : Action → State → State → Type 0
StepLeaves (Copy c) old new = IsCopy (old.reads c.from) (new.reads c.to)
StepLeaves Sync old new = IsSettled new
StepLeaves (SetMark n) old new = IfSome (new.reads (Mark n)) (λ bytes. bytes ≡ 1 ∷ []) × IsSettled new
StepLeaves (Erase slot) old new = HoldsZeros (new.reads slot)

-- the step was made, and nothing else was done
pub record IsMade (a : Action) (old new : State) : Type 0 where
  pub change : Changes (Writes a) (Writes a) (events_of a) old new
  pub leaves : StepLeaves a old new

-- these steps were made: no cell is written but theirs, and the events are theirs
abbrev pub AreMade : List Action → State → State → Type 0
AreMade actions = Changes (AllWrite actions) (AllWrite actions) (all_events actions)

-- the first steps were made, and of the others some: whole ones, and a part of at most one more
pub record AreMadeInPart (first others : List Action) (old new : State) : Type 0 where
  pub made : List Action
  pub begun : List Action
  pub left : List Action
  pub are : others ≡ made ++ (begun ++ left)
  pub one : length begun ≤ 1
  pub events : ℕ
  pub change : Changes (AllWrite (first ++ (made ++ begun))) (AllWrite (first ++ (made ++ begun))) (all_events (first ++ made) ++ take events (all_events begun)) old new

-- the first of these steps is made, or with an error a part of it; then the others are left
pub record MakesFirst {T E : Type 0} (actions left : List Action) (old new : State) (result : Result T E) : Type 0 where
  pub made : OnOk result ((a : Action) × (actions ≡ a ∷ left) × IsMade a old new)
  pub part : AreMadeInPart [] (take 1 actions) old new

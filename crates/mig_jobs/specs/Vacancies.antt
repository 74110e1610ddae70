-- When the slots that a plan uses are free.
use Rattle.std.specs.Prelude.{◌≡◌, ◌==◌, ◌<◌, ◌≤◌, ℕ, zero, suc, List, [], ◌∷◌, ◌++◌, length, map, filter, Any, All, if◌then◌else◌}
use Rattle.std.specs.List.{list_any}
use Rattle.mig_base.specs.declared.ids.Spot.{Spot}
use Rattle.mig_base.specs.declared.ids.Shift.{Shift}
use Rattle.mig_base.specs.InputLists.{InputLists}
use Rattle.mig_base.specs.Layouts.{At, IsTaken, round_at}
use Rattle.mig_base.specs.Arrivals.{IsNamed, IsPlanSpot}
use Rattle.mig_jobs.specs.JobTables.{same_spot}
use Rattle.mig_jobs.specs.declared.vacancies.Vacancy.{Vacancy}

-- the round that a table has for a spot; 0 where it has none
abbrev pub table_round : List (Spot × ℕ) → Spot → ℕ
table_round [] spot = 0
table_round (e ∷ es) spot = if same_spot spot e.0 then e.1 else table_round es spot

-- the rounds in which spots were last left, once this round's shifts are carried out: this round for a spot that they leave, and 0 for one that they go to
abbrev pub left_after : (Spot → ℕ) → ℕ → List Shift → Spot → ℕ
left_after left round shifts spot =
    if list_any (λ s. same_spot s.from spot) shifts then round else
    (if list_any (λ s. same_spot s.to spot) shifts then 0 else left spot)

-- the round in which a spot was last left, among the first r, where no shift has gone to it since; otherwise 0
abbrev pub left_in : List (List Shift) → ℕ → Spot → ℕ
left_in plan zero spot = 0
left_in plan (suc r) spot = left_after (left_in plan r) (suc r) (round_at plan (suc r)) spot

-- the vacancy that a round's shift ends
abbrev pub ended_by : (Spot → ℕ) → ℕ → Shift → Vacancy
ended_by left round s = record { spot = s.to; from = left s.to; until = round }

-- the vacancies that the shifts of the first r rounds end
abbrev pub ended_in : List (List Shift) → ℕ → List Vacancy
ended_in plan zero = []
ended_in plan (suc r) = ended_in plan r ++ map (ended_by (left_in plan r) (suc r)) (round_at plan (suc r))

-- the vacancy that a round's shift begins, where no shift ends it
abbrev pub begun_by : ℕ → ℕ → Shift → Vacancy
begun_by until round s = record { spot = s.from; from = round; until = until }

-- the vacancies that these shifts of a round begin and no shift ends
abbrev pub open_of : (Spot → ℕ) → ℕ → ℕ → List Shift → List Vacancy
open_of left until round shifts = map (begun_by until round) (filter (λ s. left s.from == round) shifts)

-- those of the first r rounds
abbrev pub open_in : List (List Shift) → ℕ → List Vacancy
open_in plan zero = []
open_in plan (suc r) = open_in plan r ++ open_of (left_in plan (length plan)) (suc (length plan)) (suc r) (round_at plan (suc r))

-- each vacancy of the spots that the plan's shifts leave or go to
abbrev pub vacancies_in : List (List Shift) → List Vacancy
vacancies_in plan = ended_in plan (length plan) ++ open_in plan (length plan)

-- the vacancy lasts after k rounds
abbrev pub IsVacant : Vacancy → ℕ → Type 0
IsVacant v k = (v.from ≤ k) × (k < v.until)

-- Each vacancy is of a spot of the plan's shifts that is free all the while, and each named spot that is free after some rounds has a vacancy then.
pub record AreVacancies (input : InputLists) (plan : List (List Shift)) (vs : List Vacancy) : Type 0 where
  pub named : All (λ v. IsPlanSpot plan v.spot) vs
  pub free : All (λ v. (k : ℕ) → k ≤ length plan → IsVacant v k → ¬ IsTaken (At input plan k) v.spot) vs
  pub all : (k : ℕ) (spot : Spot) → k ≤ length plan → IsNamed input plan spot → ¬ IsTaken (At input plan k) spot → Any (λ v. (v.spot ≡ spot) × IsVacant v k) vs

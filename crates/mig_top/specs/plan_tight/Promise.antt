-- What `plan-tight` promises.
use Rattle.std.specs.Prelude.{List, ℕ}
use Rattle.mig_top.specs.Common.{Extends, Files, HasNoPlan, Names, Tight}
use Rattle.mig_top.specs.Calls.{Call}
use Rattle.mig_top.specs.Loads.{StandsBy}
use Rattle.mig_top.specs.Making.{MakesWell}
use Rattle.mig_top.specs.plan_tight.Texts.{IsTightSaved}

-- the files are as they are after a tight plan for the input that they stood for, and what was put tells its rounds and parked items
abbrev pub HasPlannedTight : Call → Names → Files → Files → Type 0
HasPlannedTight k names old new = (text : List ℕ) × IsTightSaved names text old new × Extends text k.before.sink k.after.sink

-- a plan for the input that the three files stand for, whether or not each disk has room; 13 where no plan at all can be carried out
abbrev pub PlansTightWell : Call → Files → Names → ℕ → Type 0
PlansTightWell k files names = MakesWell k (StandsBy Tight files names) HasNoPlan 13 (HasPlannedTight k names files)

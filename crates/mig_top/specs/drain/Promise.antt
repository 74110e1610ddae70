-- What `drain` promises.
use Rattle.std.specs.Prelude.{List, ℕ, ◌<◌, ◌⊎◌}
use Rattle.mig_base.specs.Draining.{free_elsewhere}
use Rattle.mig_base.specs.Targets.{present}
use Rattle.mig_top.specs.Common.{Extends, Files, InputLists}
use Rattle.mig_top.specs.Calls.{Call}
use Rattle.mig_top.specs.Loads.{HoldsLayout}
use Rattle.mig_top.specs.Making.{MakesWell}
use Rattle.mig_top.specs.drain.Texts.{IsDiskNamed, IsDrainSaved}

-- the files are as they are after the disk of the layout that they stood for was emptied, and what was put tells how
abbrev pub HasDrained : Call → List ℕ → List ℕ → List ℕ → List ℕ → Files → Files → Type 0
HasDrained k disks now name next old new = (text : List ℕ) × IsDrainSaved disks now name next text old new × Extends text k.before.sink k.after.sink

-- the layout has no disk of this name, or the disk has more items than the others have free slots
abbrev pub CannotDrain : List ℕ → InputLists → Type 0
CannotDrain name input = ((v : ℕ) → IsDiskNamed input name v → ⊥) ⊎ ((v : ℕ) × IsDiskNamed input name v × (free_elsewhere input v < present input v))

-- next disks for the layout that the two files stand for; 14 where the disk can't be emptied
abbrev pub DrainsWell : Call → Files → List ℕ → List ℕ → List ℕ → List ℕ → ℕ → Type 0
DrainsWell k files disks now name next = MakesWell k (HoldsLayout files disks now) (CannotDrain name) 14 (HasDrained k disks now name next files)

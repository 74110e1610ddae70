-- What the set of taken spots holds.
use Rattle.std.specs.Prelude.{Bool}
use Rattle.std.specs.List.{list_any}
use Rattle.mig_base.specs.declared.ids.Spot.{Spot}
use Rattle.mig_check.specs.declared.taken.Taken.{Taken}
use Rattle.mig_check.specs.Tables.{same_spot}

-- the spot is taken
abbrev pub has_spot : Taken → Spot → Bool
has_spot taken t = list_any (same_spot t) taken.spots.keys

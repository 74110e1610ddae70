-- What a job keeps in a table, so that no spot is searched for.
use Rattle.std.specs.Prelude.{◌==◌, ◌&&◌, Bool, not, List, map, filter}
use Rattle.std.specs.List.{list_any}
use Rattle.mig_base.specs.declared.ids.Spot.{Spot}
use Rattle.mig_base.specs.declared.ids.Shift.{Shift}

-- whether both are the same spot
abbrev pub same_spot : Spot → Spot → Bool
same_spot p q = (p.disk.0 == q.disk.0) && (p.slot == q.slot)

-- the targets of shifts that are none of these spots, in order
abbrev pub free_targets : List Spot → List Shift → List Spot
free_targets spots shifts = map (λ s. s.to) (filter (λ s. not (list_any (same_spot s.to) spots)) shifts)

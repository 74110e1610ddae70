use Rattle.mig_tight.proofs.Common.{DiskId, IfOk-weaker, List, Spot, arith, map, ◌++◌, ◌≡◌}
use Rattle.mig_tight.proofs.SpareLaws.{ends_are, stops_there}
use Rattle.mig_tight.proofs.spares.ends_of.Goals as goal

-- the disks that are counted
list : (spots : List Spot) (next on stops all : List DiskId) (now : List Spot) (then : List DiskId) → now ≡ spots → then ≡ next → on ≡ map (λ (s : Spot). s.disk) now → stops ≡ on ++ then → all ≡ stops → all ≡ map (λ (s : Spot). s.disk) spots ++ next
list spots next on stops all now then a b c d e = grind arith

pub count_disks-requires-clause-there : goal.count_disks-requires-clause-there
count_disks-requires-clause-there c = grind (arith, stops_there, list)

pub returns : goal.returns
returns c = grind (arith, list, IfOk-weaker, ends_are)

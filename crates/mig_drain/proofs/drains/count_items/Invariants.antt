use Rattle.mig_drain.proofs.Common.{AreDiskCounts, length, take}
use Rattle.mig_drain.proofs.drains.count_items.Given as goal

abbrev pub invariant-loop-spot : goal.invariant-loop-spot
invariant-loop-spot l = AreDiskCounts (length l.input.disks) (take l.spot-index l.input.spots) l.counts.items

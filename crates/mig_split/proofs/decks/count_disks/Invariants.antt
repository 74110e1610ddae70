use Rattle.mig_split.proofs.Common.{AreCounts, take}
use Rattle.mig_split.proofs.decks.count_disks.Given as goal

abbrev pub invariant-loop-stop : goal.invariant-loop-stop
invariant-loop-stop l = AreCounts l.fn.disks (take l.stop-index l.stops) l.counts.items

use Rattle.mig_split.proofs.Common.{AreCopyCounts, take}
use Rattle.mig_split.proofs.sharing.count_copies.Given as goal

abbrev pub invariant-loop-stop : goal.invariant-loop-stop
invariant-loop-stop l = AreCopyCounts l.fn.copies (take l.stop-index l.stops) l.counts.items

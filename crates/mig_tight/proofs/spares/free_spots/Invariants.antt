use Rattle.mig_tight.proofs.Common.{SparesBefore}
use Rattle.mig_tight.proofs.spares.free_spots.Given as goal

abbrev pub invariant-loop-disk : goal.invariant-loop-disk
invariant-loop-disk l = SparesBefore l.input l.disk 0 l.spares.items

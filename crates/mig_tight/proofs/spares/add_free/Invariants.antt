use Rattle.mig_tight.proofs.Common.{SparesBefore}
use Rattle.mig_tight.proofs.spares.add_free.Given as goal

abbrev pub invariant-loop-slot : goal.invariant-loop-slot
invariant-loop-slot l = SparesBefore l.input l.disk.0 l.slot l.spares.items

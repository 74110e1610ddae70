use Rattle.mig_graph.proofs.Common.{IsEvenBy, get_or, no_disk, ℕ, ◌+◌, ◌<◌}
use Rattle.mig_graph.proofs.loads.even_of.Given as goal

abbrev pub invariant-loop-disk : goal.invariant-loop-disk
invariant-loop-disk l = (v : ℕ) → v < l.disk → IsEvenBy (get_or l.disks v no_disk).limits (get_or l.outgoing v 0 + get_or l.incoming v 0)

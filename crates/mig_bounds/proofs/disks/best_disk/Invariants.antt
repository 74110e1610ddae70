use Rattle.mig_bounds.proofs.Common.{IsBestDisk}
use Rattle.mig_bounds.proofs.disks.best_disk.Given as goal

abbrev pub invariant-loop-disk : goal.invariant-loop-disk
invariant-loop-disk l = IsBestDisk l.graph l.best l.disk

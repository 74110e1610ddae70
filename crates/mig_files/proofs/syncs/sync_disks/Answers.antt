use Rattle.mig_files.proofs.Common.{arith}
use Rattle.mig_files.proofs.syncs.sync_disks.Goals as goal

pub returns-clause-flushed : goal.returns-clause-flushed
returns-clause-flushed g c = λ disk. c.disks.invariant.step.tracked.disks disk (λ has. absurd (omega (arith, c.disks.invariant.left, has.1)))

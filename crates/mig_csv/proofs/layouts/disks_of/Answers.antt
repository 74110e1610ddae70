use Rattle.mig_csv.proofs.Common.{arith, common_steps}
use Rattle.mig_csv.proofs.layouts.disks_of.Goals as goal

pub loop-spot-preserved : goal.loop-spot-preserved
loop-spot-preserved c = grind (arith, common_steps)

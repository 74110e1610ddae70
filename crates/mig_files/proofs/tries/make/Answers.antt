use Rattle.mig_files.proofs.TaskSteps.{leaves_then, quiet_leaves}
use Rattle.mig_files.proofs.tries.make.Goals as goal

pub returns-in-Err-Full-clause-leaves : goal.returns-in-Err-Full-clause-leaves
returns-in-Err-Full-clause-leaves g c =
    leaves_then (leaves_then c.tries.invariant.leaves c.try_once.ensures.leaves) (quiet_leaves c.refuse.ensures.quiet)

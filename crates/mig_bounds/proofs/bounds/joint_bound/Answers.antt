use Rattle.mig_bounds.proofs.Bests.{no_transfers}
use Rattle.mig_bounds.proofs.bounds.joint_bound.Goals as goal

pub returns-in_default : goal.returns-in_default
returns-in_default c = no_transfers c.args.graph.now c.best_disk.ensures.valid c.in_default.ensures.best

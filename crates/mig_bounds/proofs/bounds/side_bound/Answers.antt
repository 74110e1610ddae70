use Rattle.mig_bounds.proofs.SideSteps.{no_side_transfers}
use Rattle.mig_bounds.proofs.bounds.side_bound.Goals as goal

pub returns-in_default : goal.returns-in_default
returns-in_default c = no_side_transfers c.args.graph.now c.best_side.ensures.valid c.in_default.ensures.best

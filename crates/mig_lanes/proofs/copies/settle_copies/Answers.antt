use Rattle.mig_lanes.proofs.Common.{rules}
use Rattle.mig_lanes.proofs.copies.settle_copies.Goals as goal

pub returns-clause-settled : goal.returns-clause-settled
returns-clause-settled g c = search rules

pub returns-clause-landed : goal.returns-clause-landed
returns-clause-landed g c = search rules

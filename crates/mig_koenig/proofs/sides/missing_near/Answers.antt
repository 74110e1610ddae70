use Rattle.mig_koenig.proofs.Common.{rules}
use Rattle.mig_koenig.proofs.sides.missing_near.Goals as goal

pub returns : goal.returns
returns c = search rules

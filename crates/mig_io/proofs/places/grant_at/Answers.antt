use Rattle.mig_io.proofs.Common.{rules}
use Rattle.mig_io.proofs.places.grant_at.Goals as goal

pub returns-clause-ok : goal.returns-clause-ok
returns-clause-ok c = search rules

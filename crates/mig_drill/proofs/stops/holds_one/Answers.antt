use Rattle.mig_drill.proofs.Common.{rules}
use Rattle.mig_drill.proofs.stops.holds_one.Goals as goal

pub returns-in-Some-len1 : goal.returns-in-Some-len1
returns-in-Some-len1 c = search rules

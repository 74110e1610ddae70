use Rattle.mig_drill.proofs.Common.{rules}
use Rattle.mig_drill.proofs.faults.DrillFaultFromSinkFailed.from.Goals as goal

pub returns : goal.returns
returns c = search rules

use Rattle.mig_base.proofs.Planned.{partition_is_plan}
use Rattle.mig_base.proofs.laws.partition_is_plan.Goals as goal

pub returns : goal.returns
returns c = partition_is_plan

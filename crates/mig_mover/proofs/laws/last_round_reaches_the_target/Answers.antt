use Rattle.mig_mover.proofs.Common.{reached}
use Rattle.mig_mover.proofs.laws.last_round_reaches_the_target.Goals as goal

pub returns : goal.returns
returns c = λ input plan digest contents valid runs. λ image at erased. reached input valid plan runs digest contents image at erased

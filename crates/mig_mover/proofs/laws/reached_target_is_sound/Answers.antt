use Rattle.mig_mover.proofs.Common.{reached_sound}
use Rattle.mig_mover.proofs.laws.reached_target_is_sound.Goals as goal

pub returns : goal.returns
returns c = λ input plan digest contents valid runs. λ image is. reached_sound input valid plan runs digest contents image is

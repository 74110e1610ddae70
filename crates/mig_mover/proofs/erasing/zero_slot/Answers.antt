use Rattle.mig_mover.proofs.Common.{refl}
use Rattle.mig_base.specs.Slots.{zeros}
use Rattle.mig_mover.proofs.erasing.zero_slot.Goals as goal

pub returns : goal.returns
unfolding zeros
returns c = refl

use Rattle.mig_mover.proofs.Common.{free_bytes}
use Rattle.mig_mover.proofs.laws.free_slots_hold_anything.Goals as goal

pub returns : goal.returns
returns c = λ input plan digest contents valid runs. λ k old new most same was. free_bytes input valid plan runs digest contents k most old new same was

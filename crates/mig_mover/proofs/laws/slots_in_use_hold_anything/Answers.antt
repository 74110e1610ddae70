use Rattle.mig_mover.proofs.Common.{other_bytes}
use Rattle.mig_mover.proofs.laws.slots_in_use_hold_anything.Goals as goal

pub returns : goal.returns
returns c = λ input plan digest contents valid runs. λ asked k old new most same was. other_bytes input valid plan runs digest contents k most asked old new same was

use Rattle.mig_mover.proofs.Common.{gate_bytes}
use Rattle.mig_mover.proofs.laws.gate_may_be_closed.Goals as goal

pub returns : goal.returns
returns c = λ input plan digest contents valid runs. λ k old new most same free was. gate_bytes input valid plan runs digest contents k most old new same was free

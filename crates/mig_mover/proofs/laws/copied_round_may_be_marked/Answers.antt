use Rattle.mig_mover.proofs.Common.{arith, marking}
use Rattle.mig_mover.proofs.laws.copied_round_may_be_marked.Goals as goal

pub returns : goal.returns
returns c = λ input plan digest contents valid runs. λ asked k old new lt same marked copied was. marking input valid plan runs digest contents k (omega (arith, lt)) lt old new same asked marked was copied

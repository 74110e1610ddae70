use Rattle.mig_mover.proofs.Common.{arith, unmarked}
use Rattle.mig_mover.proofs.laws.unset_mark_holds_anything.Goals as goal

pub returns : goal.returns
returns c = λ input plan digest contents valid runs. λ asked k old new lt same unset was. unmarked input valid plan runs digest contents k (omega (arith, lt)) lt old new same asked unset was

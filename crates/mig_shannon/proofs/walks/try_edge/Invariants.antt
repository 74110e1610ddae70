use Rattle.mig_shannon.proofs.Common.{IsOpen, Recolours}
use Rattle.mig_shannon.proofs.walks.try_edge.Given as goal

abbrev pub invariant-loop-try : goal.invariant-loop-try
invariant-loop-try l = record { recoloured : Recolours l.fn.board l.board; at : IsOpen l.board l.edge l.first l.second }

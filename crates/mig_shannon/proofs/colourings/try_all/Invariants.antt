use Rattle.mig_shannon.proofs.Left.{AreTried}
use Rattle.mig_shannon.proofs.colourings.try_all.Given as goal

abbrev pub invariant-loop-edge : goal.invariant-loop-edge
invariant-loop-edge l = AreTried l.fn.board l.board l.edge l.left

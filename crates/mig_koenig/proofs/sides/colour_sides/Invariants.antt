use Rattle.mig_koenig.proofs.Common.{IsPart}
use Rattle.mig_koenig.proofs.sides.colour_sides.Given as goal

abbrev pub invariant-loop-edge : goal.invariant-loop-edge
invariant-loop-edge l = IsPart l.fn.board l.board l.edge

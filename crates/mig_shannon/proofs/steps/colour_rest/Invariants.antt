use Rattle.mig_shannon.proofs.Growing.{IsColoured}
use Rattle.mig_shannon.proofs.steps.colour_rest.Given as goal

abbrev pub invariant-loop-edge : goal.invariant-loop-edge
invariant-loop-edge l = IsColoured l.fn.board l.board l.edge

use Rattle.mig_plan.proofs.Common.{vec_len, ◌≡◌}
use Rattle.mig_plan.proofs.colourings.directions_of.Given as goal

abbrev pub invariant-loop-edge : goal.invariant-loop-edge
invariant-loop-edge l = vec_len l.directions ≡ l._edge

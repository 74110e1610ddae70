use Rattle.mig_check.proofs.Common.{At, IsListOf, length, ◌≡◌}
use Rattle.mig_check.proofs.running.carry_out.Given as goal

abbrev pub invariant-loop-round : goal.invariant-loop-round
invariant-loop-round l = record {
  layout : IsListOf (At l.input l.plan l.round-index) l.spots;
  len : length l.spots ≡ length l.input.spots;
}

use Rattle.mig_plan.proofs.Common.{AreColourRows, length, ◌≡◌}
use Rattle.mig_plan.proofs.rows.rows_of.Given as goal

abbrev pub invariant-loop-edge : goal.invariant-loop-edge
invariant-loop-edge l = record { len : length l.rows.items ≡ l.fn.count; rows : AreColourRows l.input l.targets l.colours l.edge l.rows.items }

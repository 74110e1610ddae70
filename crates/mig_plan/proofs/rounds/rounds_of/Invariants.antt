use Rattle.mig_plan.proofs.Common.{filter, is_filled, items_of, map, ◌≡◌}
use Rattle.mig_plan.proofs.rounds.rounds_of.Given as goal

abbrev pub invariant-loop-row : goal.invariant-loop-row
invariant-loop-row l = l.rounds.items ≡ filter is_filled (map items_of l.yielded)

use Rattle.mig_numbers.proofs.Common.{map, round_shifts, ◌≡◌}
use Rattle.mig_numbers.proofs.spelling.plan_of.Given as goal

abbrev pub invariant-loop-round : goal.invariant-loop-round
invariant-loop-round l = l.rounds.items ≡ map round_shifts l.yielded

use Rattle.mig_check.proofs.Common.{is_inside, numbers, passing, ◌≡◌}
use Rattle.mig_check.proofs.counted.count_inside.Given as goal

abbrev pub invariant-loop-i : goal.invariant-loop-i
invariant-loop-i l = l.inside ≡ passing l.input (is_inside (numbers l.set)) l.i

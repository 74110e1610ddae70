use Rattle.mig_check.proofs.Common.{after_round, take, ◌≡◌}
use Rattle.mig_check.proofs.shifts.move_items.Given as goal

abbrev pub invariant-loop-s : goal.invariant-loop-s
invariant-loop-s l = l.spots ≡ after_round l.initial.spots (take l.s-index l.round)

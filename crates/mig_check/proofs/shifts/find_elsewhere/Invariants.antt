use Rattle.mig_check.proofs.Common.{Shift, Some, get_or, layout_of, ℕ, ◌<◌, ◌≡◌}
use Rattle.mig_check.proofs.shifts.find_elsewhere.Given as goal

abbrev pub invariant-loop-s : goal.invariant-loop-s
invariant-loop-s l = (k : ℕ) (d : Shift) → k < l.s-index → layout_of l.spots (get_or l.round k d).item.0 ≡ Some (get_or l.round k d).from

use Rattle.mig_check.proofs.Common.{IsArrivedAt, layout_of, ℕ, ◌<◌}
use Rattle.mig_check.proofs.running.find_astray.Given as goal

abbrev pub invariant-loop-i : goal.invariant-loop-i
invariant-loop-i l = (item : ℕ) → item < l.i → IsArrivedAt l.input (layout_of l.spots) item

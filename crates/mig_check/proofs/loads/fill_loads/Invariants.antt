use Rattle.mig_check.proofs.Common.{counts_at, get_or, length, passing, ℕ, ◌<◌, ◌≡◌}
use Rattle.mig_check.proofs.loads.fill_loads.Given as goal

abbrev pub invariant-loop-i : goal.invariant-loop-i
invariant-loop-i l = (v : ℕ) → v < length l.loads → get_or l.loads v 0 ≡ passing l.input (counts_at l.fn.part v) l.i

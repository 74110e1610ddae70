use Rattle.mig_numbers.proofs.Common.{DiskId, get_or, ℕ, ◌<◌}
use Rattle.mig_numbers.proofs.spelling.are_there.Given as goal

abbrev pub invariant-loop-id : goal.invariant-loop-id
invariant-loop-id l = (i : ℕ) (d : DiskId) → i < l.id-index → (get_or l.ids i d).0 < l.count

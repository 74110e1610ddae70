use Rattle.mig_numbers.proofs.Common.{covered, numbers, take, ◌≡◌}
use Rattle.mig_numbers.proofs.writing.write_ids.Given as goal

abbrev pub invariant-loop-k : goal.invariant-loop-k
invariant-loop-k l = l.set ≡ covered l.fn.set (numbers (take l.k l.ids))

use Rattle.mig_check.proofs.Common.{IsCovered, IsFoundOver, Shift, get_or, ℕ, ◌<◌}
use Rattle.mig_check.proofs.ends.find_over.Given as goal

abbrev pub invariant-loop-s : goal.invariant-loop-s
invariant-loop-s l = record {
  over : IsFoundOver l.fn.part l.disks l.counts l.found;
  covered : (k : ℕ) (d : Shift) → k < l.s-index → IsCovered l.fn.part l.disks l.counts l.found (get_or l.round k d).from.disk.0 × IsCovered l.fn.part l.disks l.counts l.found (get_or l.round k d).to.disk.0;
}

use Rattle.mig_numbers.proofs.Common.{AreRowsSound}
use Rattle.mig_numbers.proofs.spelling.row_fault.Given as goal

abbrev pub invariant-loop-k : goal.invariant-loop-k
invariant-loop-k l = AreRowsSound l.disks l.items l.rounds l.rows l.k

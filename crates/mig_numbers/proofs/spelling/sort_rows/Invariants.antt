use Rattle.mig_numbers.proofs.Common.{AreSorted}
use Rattle.mig_numbers.proofs.spelling.sort_rows.Given as goal

abbrev pub invariant-loop-row : goal.invariant-loop-row
invariant-loop-row l = AreSorted l.items l.rows l.rounds l.row-index l.made.items

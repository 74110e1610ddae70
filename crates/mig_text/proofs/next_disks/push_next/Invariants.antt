use Rattle.mig_text.proofs.Common.{drop, map, next_line, text_of_lines, zip, ◌++◌, ◌≡◌}
use Rattle.mig_text.proofs.next_disks.push_next.Given as goal

abbrev pub invariant-loop-k : goal.invariant-loop-k
invariant-loop-k l = l.out.items ++ text_of_lines (map (next_line l.input) (zip (drop l.k l.input.items) (drop l.k l.next))) ≡ l.initial.out.items ++ text_of_lines (map (next_line l.input) (zip l.input.items l.next))

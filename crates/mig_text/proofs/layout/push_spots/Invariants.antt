use Rattle.mig_text.proofs.Common.{drop, map, spot_line, text_of_lines, zip, ◌++◌, ◌≡◌}
use Rattle.mig_text.proofs.layout.push_spots.Given as goal

abbrev pub invariant-loop-k : goal.invariant-loop-k
invariant-loop-k l = l.out.items ++ text_of_lines (map (spot_line l.input) (zip (drop l.k l.input.items) (drop l.k l.spots))) ≡ l.initial.out.items ++ text_of_lines (map (spot_line l.input) (zip l.input.items l.spots))

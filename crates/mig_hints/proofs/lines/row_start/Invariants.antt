use Rattle.mig_hints.proofs.Common.{rows_before, ◌≡◌, ◌≤◌}
use Rattle.mig_hints.proofs.lines.row_start.Given as goal

abbrev pub invariant-loop-at : goal.invariant-loop-at
invariant-loop-at l = record {
  counted : l.rows ≡ rows_before l.bytes l.at;
  few : l.rows ≤ l.at;
  below : l.rows ≤ l.row;
}

use Rattle.mig_hints.proofs.Common.{ends_before, ◌≡◌, ◌≤◌}
use Rattle.mig_hints.proofs.lines.line_of.Given as goal

abbrev pub invariant-loop-k : goal.invariant-loop-k
invariant-loop-k l = record {
  counted : l.ends ≡ ends_before l.bytes l.k;
  few : l.ends ≤ l.k;
}

use Rattle.mig_drill.proofs.Common.{replicate, ◌++◌, ◌≡◌}
use Rattle.mig_drill.proofs.writes.push_many.Given as goal

abbrev pub invariant-loop : goal.invariant-loop
invariant-loop l = l.writes.items ≡ l.initial.writes.items ++ replicate l.counter l.write

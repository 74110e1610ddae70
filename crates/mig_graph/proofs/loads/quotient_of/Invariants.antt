use Rattle.mig_graph.proofs.Common.{quotient_by, ◌≡◌}
use Rattle.mig_graph.proofs.loads.quotient_of.Given as goal

abbrev pub invariant-loop-disk : goal.invariant-loop-disk
invariant-loop-disk l = l.greatest ≡ quotient_by l.disks l.outgoing l.incoming l.disk

use Rattle.mig_drain.proofs.Common.{replicate, ◌++◌, ◌≡◌}
use Rattle.mig_drain.proofs.receivers.push_times.Given as goal

abbrev pub invariant-loop-time : goal.invariant-loop-time
invariant-loop-time l = l.list.items ≡ l.initial.list.items ++ replicate l._time l.disk

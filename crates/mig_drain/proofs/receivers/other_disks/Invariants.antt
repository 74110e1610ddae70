use Rattle.mig_drain.proofs.Common.{filter, is_other, map, range_with_len, receiver, ◌≡◌}
use Rattle.mig_drain.proofs.receivers.other_disks.Given as goal

abbrev pub invariant-loop-v : goal.invariant-loop-v
invariant-loop-v l = l.receivers.items ≡ map (receiver l.input) (filter (is_other l.disk.0) (range_with_len 0 l.v))

use Rattle.mig_drain.proofs.Common.{all_free, take, ◌*◌, ◌≡◌, ◌≤◌}
use Rattle.mig_drain.proofs.receivers.total_free.Given as goal

abbrev pub invariant-loop-receiver : goal.invariant-loop-receiver
invariant-loop-receiver l = record { total : l.total ≡ all_free (take l.receiver-index l.receivers); few : l.total ≤ 65536 * l.receiver-index }

use Rattle.mig_drain.proofs.Common.{all_take, take, ◌*◌, ◌≡◌, ◌≤◌}
use Rattle.mig_drain.proofs.receivers.total_takes.Given as goal

abbrev pub invariant-loop-receiver : goal.invariant-loop-receiver
invariant-loop-receiver l = record { total : l.total ≡ all_take l.rounds (take l.receiver-index l.receivers); few : l.total ≤ 65536 * l.receiver-index }

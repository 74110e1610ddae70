use Rattle.mig_check.proofs.Common.{limit_sum, numbers, take, transfer_graph, ◌*◌, ◌≡◌, ◌≤◌}
use Rattle.mig_check.proofs.counted.sum_limits.Given as goal

abbrev pub invariant-loop-disk : goal.invariant-loop-disk
invariant-loop-disk l = record {
  is : l.sum ≡ limit_sum (transfer_graph l.input) (numbers (take l.disk-index l.disk-items));
  most : l.sum ≤ l.disk-index * 2048;
}

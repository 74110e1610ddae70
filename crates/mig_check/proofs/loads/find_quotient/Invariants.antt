use Rattle.mig_check.proofs.Common.{greatest, map, part_value, range_with_len, transfer_graph, ◌≡◌}
use Rattle.mig_check.proofs.loads.find_quotient.Given as goal

abbrev pub invariant-loop-v : goal.invariant-loop-v
invariant-loop-v l = l.greatest ≡ greatest (map (part_value l.fn.part (transfer_graph l.input)) (range_with_len 0 l.v))

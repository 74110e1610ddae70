use Rattle.mig_graph.proofs.Common.{edge_item, edge_transfer, filter, is_relocated, map, range_with_len, transfer, ◌≡◌}
use Rattle.mig_graph.proofs.edges.edges_of.Given as goal

abbrev pub invariant-loop-item : goal.invariant-loop-item
invariant-loop-item l = record { items : map edge_item l.edges.items ≡ filter (is_relocated l.input) (range_with_len 0 l.item); transfers : map edge_transfer l.edges.items ≡ map (transfer l.input) (filter (is_relocated l.input) (range_with_len 0 l.item)) }

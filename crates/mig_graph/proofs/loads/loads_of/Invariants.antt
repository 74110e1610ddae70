use Rattle.mig_graph.proofs.Common.{AreLoads, edge_transfer, map, take}
use Rattle.mig_graph.proofs.loads.loads_of.Given as goal

abbrev pub invariant-loop-edge : goal.invariant-loop-edge
invariant-loop-edge l = AreLoads l.fn.side l.fn.disks (map edge_transfer (take l.edge-index l.edges)) l.loads.items

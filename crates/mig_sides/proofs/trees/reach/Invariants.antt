use Rattle.mig_sides.proofs.Common.{IsSome, Reaches, disk_on, node_at, ℕ, ◌<◌}
use Rattle.mig_sides.proofs.trees.reach.Given as goal

abbrev pub invariant-loop-other : goal.invariant-loop-other
invariant-loop-other l = record {
  reaches : Reaches l.disk l.node l.near l.fn.nodes l.nodes l.fn.queue.items l.queue.items;
  all : (k : ℕ) → k < l.other-index → IsSome (node_at l.nodes (disk_on l.near k));
}

use Rattle.mig_sides.proofs.Common.{AreExplored, IsSome, node_at, ℕ, ◌<◌}
use Rattle.mig_sides.proofs.searches.search.Given as goal

abbrev pub invariant-loop-disk : goal.invariant-loop-disk
invariant-loop-disk l = record {
  settled : AreExplored l.graph l.nodes;
  reached : (v : ℕ) → v < l.disk → IsSome (node_at l.nodes v);
}

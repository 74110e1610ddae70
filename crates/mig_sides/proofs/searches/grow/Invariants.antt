use Rattle.mig_sides.proofs.Common.{IsGrowing, IsSome, StayReached, length, node_at, unreached, ◌+◌, ◌-◌}
use Rattle.mig_sides.proofs.searches.grow.Given as goal

abbrev pub invariant-loop-next : goal.invariant-loop-next
invariant-loop-next l = record {
  growing : IsGrowing l.graph l.fn.root.0 l.nodes l.queue.items l.next;
  kept : StayReached l.fn.nodes l.nodes;
  reached : IsSome (node_at l.nodes l.fn.root.0);
}

abbrev pub decreases-loop-next : goal.decreases-loop-next
decreases-loop-next l = unreached l.nodes + (length l.queue.items - l.next)

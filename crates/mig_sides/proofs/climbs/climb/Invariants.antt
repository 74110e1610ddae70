use Rattle.mig_sides.proofs.Common.{IsClimbing, Node, Some, node_at, ◌≡◌}
use Rattle.mig_sides.proofs.climbs.climb.Given as goal

abbrev pub invariant-loop-step : goal.invariant-loop-step
invariant-loop-step l = (node : Node) × (node_at l.nodes l.fn.disk.0 ≡ Some node) × IsClimbing l.nodes l.fn.disk.0 l._step l.at.0 l.way.items node

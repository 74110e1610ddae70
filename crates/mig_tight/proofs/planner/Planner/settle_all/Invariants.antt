use Rattle.mig_tight.proofs.Common.{AreUnawaitedBelow, IsSoundState, length, ◌≡◌}
use Rattle.mig_tight.proofs.planner.Planner.settle_all.Given as goal

abbrev pub invariant-loop-spare : goal.invariant-loop-spare
invariant-loop-spare l = record { sound : IsSoundState l.input l.self; len : length l.self.spares ≡ length l.initial.self.spares; unawaited : AreUnawaitedBelow l.self l.spare }

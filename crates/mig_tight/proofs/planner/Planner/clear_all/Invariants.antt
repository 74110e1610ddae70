use Rattle.mig_tight.proofs.Common.{AreClearedBelow, AreUnawaited, IsSoundState, length, ◌<◌}
use Rattle.mig_tight.proofs.planner.Planner.clear_all.Given as goal

abbrev pub invariant-loop-item : goal.invariant-loop-item
invariant-loop-item l = record { sound : IsSoundState l.input l.self; unawaited : AreUnawaited l.self; spare : 0 < length l.self.spares; cleared : AreClearedBelow l.input l.self l.item }

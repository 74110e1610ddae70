use Rattle.mig_tight.proofs.Common.{IsSoundState, Preserves, waiting_count}
use Rattle.mig_tight.proofs.planner.Planner.settle.Given as goal

abbrev pub invariant-loop-alloc : goal.invariant-loop-alloc
invariant-loop-alloc l = record { sound : IsSoundState l.input l.self; preserves : Preserves l.input l.spare l.initial.self l.self }

abbrev pub decreases-loop-alloc : goal.decreases-loop-alloc
decreases-loop-alloc l = waiting_count l.self

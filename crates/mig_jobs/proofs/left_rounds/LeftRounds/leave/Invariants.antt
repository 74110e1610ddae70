use Rattle.mig_jobs.proofs.Common.{Spot, cond, list_any, same_spot, table_round, take, ◌≡◌}
use Rattle.mig_jobs.proofs.left_rounds.LeftRounds.leave.Given as goal

abbrev pub invariant-loop-s : goal.invariant-loop-s
invariant-loop-s l = (spot : Spot) → table_round l.self spot ≡ cond (list_any (λ s. same_spot s.from spot) (take l.s-index l.shifts)) l.round (table_round l.initial.self spot)

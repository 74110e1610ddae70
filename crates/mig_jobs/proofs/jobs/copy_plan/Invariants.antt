use Rattle.mig_jobs.proofs.Common.{take, ◌≡◌}
use Rattle.mig_jobs.proofs.jobs.copy_plan.Given as goal

abbrev pub invariant-loop-round : goal.invariant-loop-round
invariant-loop-round l = l.rounds.items ≡ take l.round-index l.round-items

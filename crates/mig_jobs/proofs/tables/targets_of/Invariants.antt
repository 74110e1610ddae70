use Rattle.mig_jobs.proofs.Common.{free_targets, shifts_of, take, ◌≡◌}
use Rattle.mig_jobs.proofs.tables.targets_of.Given as goal

abbrev pub invariant-loop-round : goal.invariant-loop-round
invariant-loop-round l = l.targets.items ≡ free_targets l.input.spots (shifts_of (take l.round-index l.round-items))

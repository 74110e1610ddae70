use Rattle.mig_jobs.proofs.Common.{free_targets, take, ◌++◌, ◌≡◌}
use Rattle.mig_jobs.proofs.tables.add_targets.Given as goal

abbrev pub invariant-loop-s : goal.invariant-loop-s
invariant-loop-s l = l.targets.items ≡ l.initial.targets.items ++ free_targets l.table (take l.s-index l.shifts)

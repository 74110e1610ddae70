use Rattle.mig_jobs.proofs.Common.{length, shifts_of, take, ◌≡◌}
use Rattle.mig_jobs.proofs.jobs.count_shifts.Given as goal

abbrev pub invariant-loop-round : goal.invariant-loop-round
invariant-loop-round l = l.count ≡ length (shifts_of (take l.round-index l.round-items))

use Rattle.mig_live.proofs.Common.{steps_after, ◌+◌, ◌≡◌}
use Rattle.mig_live.proofs.live.count_steps.Given as goal

abbrev pub invariant-loop-round : goal.invariant-loop-round
invariant-loop-round l = l.count + steps_after l.job.plan l.round ≡ steps_after l.job.plan l.marked + 1

use Rattle.mig_drill.proofs.Common.{HasResumed, state_of, subst, ℕ}
use Rattle.mig_drill.proofs.drills.try_stop.Goals as goal

pub returns-clause-told : goal.returns-clause-told
returns-clause-told c = c.stop_at-left.ensures.told c.in-Ok.ensures.told

pub returns-clause-resumed : goal.returns-clause-resumed
returns-clause-resumed c =
    subst (λ (k : ℕ). HasResumed c.args.job.now k (state_of c.stop_at-left.result.1)) (c.ended_so.ensures.marks c.if-not-ended_so.false) (c.stop_at-left.ensures.resumed (c.ended_so.ensures.reached c.if-not-ended_so.false) c.in-Ok.ensures.told)

pub returns-clause-ended : goal.returns-clause-ended
returns-clause-ended c = c.stop_at-left.ensures.settled (c.ended_so.ensures.reached c.if-not-ended_so.false)

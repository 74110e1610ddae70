use Rattle.mig_jobs.proofs.Common.{List, Shift, ap, arith, length}
use Rattle.mig_jobs.proofs.JobRounds.{round_short}
use Rattle.mig_jobs.proofs.jobs.Job.round_len.Goals as goal

pub overflow_cast-result : goal.overflow_cast-result
overflow_cast-result c =
    let here = ap (λ (l : List Shift). length l) c.round.ensures.shifts in
    omega (arith, here, round_short c.args.self.now c.round.ensures.valid c.args.round c.requires.from c.requires.to)

use Rattle.mig_commands.proofs.Common.{refl}
use Rattle.mig_commands.proofs.Steps.{next, stopped}
use Rattle.mig_commands.proofs.jobs.small_job.Goals as goal

pub returns-in_err-job-clause-takes : goal.returns-in_err-job-clause-takes
returns-in_err-job-clause-takes c = stopped c.in_err-job.ensures.takes c.from_residual.ensures.1

pub returns-in_err-check_size-clause-takes : goal.returns-in_err-check_size-clause-takes
returns-in_err-check_size-clause-takes c =
    next c.in_ok-job.ensures.takes (stopped (rw c.plan.ensures.value at c.in_err-check_size.ensures) c.from_residual-in_err-check_size.ensures.1)

pub returns-clause-takes : goal.returns-clause-takes
returns-clause-takes c =
    next c.in_ok-job.ensures.takes (next (rw c.plan.ensures.value at c.in_ok-check_size.ensures) (record { passes = refl; stops = tt }))

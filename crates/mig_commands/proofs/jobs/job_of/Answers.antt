use Rattle.mig_commands.proofs.Common.{MAX_FILE_BYTES, Task, length, shifts_of, subst, sym, ◌≤◌}
use Rattle.mig_commands.proofs.Steps.{next, stopped}
use Rattle.mig_commands.proofs.jobs.job_of.Goals as goal

pub returns-in_err-input-clause-takes : goal.returns-in_err-input-clause-takes
returns-in_err-input-clause-takes c = stopped c.in_err-input.ensures c.from_residual.ensures.1

pub returns-in_err-rounds-clause-takes : goal.returns-in_err-rounds-clause-takes
returns-in_err-rounds-clause-takes c = next c.in_ok-input.ensures (stopped c.in_err-rounds.ensures.takes c.from_residual-in_err-rounds.ensures.1)

pub returns-in_err-check_runs-clause-takes : goal.returns-in_err-check_runs-clause-takes
returns-in_err-check_runs-clause-takes c =
    next c.in_ok-input.ensures (next c.in_ok-rounds.ensures.takes (stopped c.in_err-check_runs.ensures c.from_residual-in_err-check_runs.ensures.1))

pub returns-clause-takes : goal.returns-clause-takes
returns-clause-takes c =
    next c.in_ok-input.ensures (next c.in_ok-rounds.ensures.takes
    (next c.in_ok-check_runs.ensures (record { passes = c.in_ok-prepare.ensures; stops = tt })))

pub returns-clause-few : goal.returns-clause-few
returns-clause-few c = subst (λ (t : Task). length (shifts_of t.plan) ≤ MAX_FILE_BYTES) (sym c.in_ok-prepare.ensures) c.in_ok-rounds.ensures.few

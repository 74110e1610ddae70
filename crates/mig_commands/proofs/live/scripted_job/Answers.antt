use Rattle.mig_commands.proofs.Common.{All, IsOrder, Task, ap, subst, sym}
use Rattle.mig_commands.proofs.Steps.{next, stopped}
use Rattle.mig_commands.proofs.live.scripted_job.Goals as goal

pub returns-in_err-input-clause-takes : goal.returns-in_err-input-clause-takes
returns-in_err-input-clause-takes c = stopped c.in_err-input.ensures.takes c.from_residual.ensures.1

pub returns-in_err-rounds-clause-takes : goal.returns-in_err-rounds-clause-takes
returns-in_err-rounds-clause-takes c =
    next c.in_ok-input.ensures.takes (stopped c.in_err-rounds.ensures.takes c.from_residual-in_err-rounds.ensures.1)

pub returns-in_err-script-clause-takes : goal.returns-in_err-script-clause-takes
returns-in_err-script-clause-takes c =
    next c.in_ok-input.ensures.takes (next c.in_ok-rounds.ensures.takes
    (stopped c.in_err-script.ensures.takes c.from_residual-in_err-script.ensures.1))

pub returns-in_err-check_runs-clause-takes : goal.returns-in_err-check_runs-clause-takes
returns-in_err-check_runs-clause-takes c =
    next c.in_ok-input.ensures.takes (next c.in_ok-rounds.ensures.takes
    (next c.in_ok-script.ensures.takes (stopped c.in_err-check_runs.ensures c.from_residual-in_err-check_runs.ensures.1)))

pub returns-clause-takes : goal.returns-clause-takes
returns-clause-takes c =
    let read = ap (λ (t : Task). record { task = t; orders = c.in_ok-script.script }) c.in_ok-job.ensures in
    next c.in_ok-input.ensures.takes (next c.in_ok-rounds.ensures.takes
    (next c.in_ok-script.ensures.takes (next c.in_ok-check_runs.ensures (record { passes = read; stops = tt }))))

pub returns-clause-fits : goal.returns-clause-fits
returns-clause-fits c = subst (λ (t : Task). All (IsOrder t.input) c.in_ok-script.script) (sym c.in_ok-job.ensures) c.in_ok-script.ensures.fits

use Rattle.mig_check.proofs.Common.{err_from_is_err_and}
use Rattle.mig_check.proofs.rounds.check_round.Goals as goal

pub returns-in_err-check_items-clause-blame : goal.returns-in_err-check_items-clause-blame
returns-in_err-check_items-clause-blame c =
    let q = err_from_is_err_and c.from_residual.result c.from_residual.ensures.1 in
    rw (q.1, q.2) (c.in_err-check_items.ensures.blame c.args.input.now)

use Rattle.mig_mover.proofs.Common.{arith}
use Rattle.mig_mover.proofs.Looked.{rose_ours, store_fault}
use Rattle.mig_mover.proofs.standing.stand_running.Goals as goal

pub returns-in_err-expect_marked-clause-fault : goal.returns-in_err-expect_marked-clause-fault
returns-in_err-expect_marked-clause-fault g c = store_fault _ c.from_residual-in_err-expect_marked.result
    c.from_residual-in_err-expect_marked.ensures.1
    (rose_ours (omega arith) c.in_ok-check_plan.ensures.ours (λ not. not) c.in_err-expect_marked.ensures.cause.failed)

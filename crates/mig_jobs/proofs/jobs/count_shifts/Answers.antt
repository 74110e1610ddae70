use Rattle.mig_jobs.proofs.Common.{List, Shift, ap, arith, length, shifts_of, ◌∙◌}
use Rattle.mig_jobs.proofs.JobRounds.{shifts_counted}
use Rattle.mig_jobs.proofs.jobs.count_shifts.Goals as goal

pub overflow_cast-count : goal.overflow_cast-count
overflow_cast-count c =
    let here = ap (λ (l : List Shift). length l) (c.shifts.ensures ∙ c.round-item.is) in
    let all = ap (λ (l : List (List Shift)). length (shifts_of l)) c.rounds-round-items.ensures in
    omega (arith, here, all, c.requires, shifts_counted c.rounds-round-items.result.now c.loop-round.round-index c.round-item.result c.loop-round-test.true)

pub overflow_add-count : goal.overflow_add-count
overflow_add-count c =
    let here = ap (λ (l : List Shift). length l) (c.shifts.ensures ∙ c.round-item.is) in
    let all = ap (λ (l : List (List Shift)). length (shifts_of l)) c.rounds-round-items.ensures in
    omega (arith, here, all, c.requires, c.loop-round.invariant, shifts_counted c.rounds-round-items.result.now c.loop-round.round-index c.round-item.result c.loop-round-test.true)

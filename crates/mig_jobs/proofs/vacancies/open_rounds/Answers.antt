use Rattle.mig_jobs.proofs.Common.{[], arith, get_or_default, length, round_at, suc, ◌+◌, ◌∙◌, ◌≡◌}
use Rattle.mig_jobs.proofs.VacancySteps.{open_more}
use Rattle.mig_jobs.proofs.vacancies.open_rounds.Goals as goal

pub loop-k-preserved : goal.loop-k-preserved
loop-k-preserved c =
    let plan = c.args.rounds.now in
    let k = c.loop-k.k in
    let shifts = c.shifts.result.now in
    let next : k + 1 ≡ suc k = omega arith in
    let end : length plan + 1 ≡ suc (length plan) = omega arith in
    let same : shifts ≡ round_at plan (suc k) = c.shifts.ensures ∙ c.index-rounds-k.is ∙ get_or_default plan k c.index-rounds-k.result [] c.loop-k-test.true in
    open_more plan k (k + 1) next shifts same c.args.left.now c.requires.left (length plan + 1) end c.args.vacancies.now.items c.loop-k.vacancies.items c.add_all_open.new.vacancies.items c.loop-k.invariant c.in_ok-add_all_open.ensures

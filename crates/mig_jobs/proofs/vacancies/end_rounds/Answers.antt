use Rattle.mig_jobs.proofs.Common.{[], arith, get_or_default, round_at, suc, ◌+◌, ◌∙◌, ◌≡◌}
use Rattle.mig_jobs.proofs.VacancySteps.{left_more, ended_more}
use Rattle.mig_jobs.proofs.vacancies.end_rounds.Goals as goal

pub loop-k-preserved : goal.loop-k-preserved
loop-k-preserved c =
    let plan = c.args.rounds.now in
    let k = c.loop-k.k in
    let shifts = c.shifts-shifts.result.now in
    let next : k + 1 ≡ suc k = omega arith in
    let same : shifts ≡ round_at plan (suc k) = c.shifts-shifts.ensures ∙ c.index-rounds-k.is ∙ get_or_default plan k c.index-rounds-k.result [] c.loop-k-test.true in
    record {
      left = left_more plan k (k + 1) next shifts same c.loop-k.left c.loop-k.invariant.left c.shift.new.self c.in_ok-shift.ensures;
      ended = ended_more plan k (k + 1) next shifts same c.loop-k.left c.loop-k.invariant.left c.args.vacancies.now.items c.loop-k.vacancies.items c.add_ended.new.vacancies.items c.loop-k.invariant.ended c.in_ok-add_ended.ensures;
    }

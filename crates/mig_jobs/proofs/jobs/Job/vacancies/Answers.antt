use Rattle.mig_jobs.proofs.Common.{AreVacancies, Task, subst, sym, ◌∙◌}
use Rattle.mig_jobs.proofs.VacancyLaws.{are_vacancies}
use Rattle.mig_jobs.proofs.jobs.Job.vacancies.Goals as goal

pub returns-clause-vacancies : goal.returns-clause-vacancies
returns-clause-vacancies c =
    let j = c.self.inside in
    let (task, count, targets, vacancies, stops) = c.self.invariant in
    subst (λ (t : Task). AreVacancies t.input t.plan c.as_slice.result.now) c.self.view_is
    (subst (AreVacancies j.input j.plan) (sym (c.as_slice.ensures.value ∙ vacancies)) (are_vacancies j.input task.valid j.plan task.runs))

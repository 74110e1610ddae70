use Rattle.mig_jobs.proofs.Common.{open_in, ◌++◌, ◌≡◌}
use Rattle.mig_jobs.proofs.vacancies.open_rounds.Given as goal

abbrev pub invariant-loop-k : goal.invariant-loop-k
invariant-loop-k l = l.vacancies.items ≡ l.initial.vacancies.items ++ open_in l.rounds l.k

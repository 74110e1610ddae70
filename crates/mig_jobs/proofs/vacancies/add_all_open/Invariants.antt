use Rattle.mig_jobs.proofs.Common.{open_of, table_round, take, ◌++◌, ◌≡◌}
use Rattle.mig_jobs.proofs.vacancies.add_all_open.Given as goal

abbrev pub invariant-loop-s : goal.invariant-loop-s
invariant-loop-s l = l.vacancies.items ≡ l.initial.vacancies.items ++ open_of (table_round l.left) l.until l.round (take l.s-index l.shifts)

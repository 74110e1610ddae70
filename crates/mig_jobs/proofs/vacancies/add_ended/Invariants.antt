use Rattle.mig_jobs.proofs.Common.{ended_by, map, table_round, take, ◌++◌, ◌≡◌}
use Rattle.mig_jobs.proofs.vacancies.add_ended.Given as goal

abbrev pub invariant-loop-s : goal.invariant-loop-s
invariant-loop-s l = l.vacancies.items ≡ l.initial.vacancies.items ++ map (ended_by (table_round l.left) l.round) (take l.s-index l.shifts)

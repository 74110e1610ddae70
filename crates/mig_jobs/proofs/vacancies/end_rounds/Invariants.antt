use Rattle.mig_jobs.proofs.Common.{Spot, ended_in, left_in, table_round, ◌++◌, ◌≡◌}
use Rattle.mig_jobs.proofs.vacancies.end_rounds.Given as goal

abbrev pub invariant-loop-k : goal.invariant-loop-k
invariant-loop-k l = record {
  left : (spot : Spot) → table_round l.left spot ≡ left_in l.rounds l.k spot;
  ended : l.vacancies.items ≡ l.initial.vacancies.items ++ ended_in l.rounds l.k;
}

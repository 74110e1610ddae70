use Rattle.mig_jobs.proofs.Common.{All, [], length, ◌≡◌}
use Rattle.mig_jobs.proofs.stops.empty_stops.Given as goal

abbrev pub invariant-loop : goal.invariant-loop
invariant-loop l = record { len : length l.rows.items ≡ l.counter; empty : All (λ row. row.items ≡ []) l.rows.items }

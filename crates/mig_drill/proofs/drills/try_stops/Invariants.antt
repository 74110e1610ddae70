use Rattle.mig_drill.proofs.Common.{TellsJob, state_of, ◌*◌, ◌≡◌, ◌≤◌}
use Rattle.mig_drill.proofs.drills.try_stops.Given as goal

-- The store tells the job's cells; so many runs were made, and no more marks are set than there were writes
abbrev pub invariant-loop-n : goal.invariant-loop-n
invariant-loop-n l = record {
  runs : l.runs ≡ 4 * l.n;
  most : l.marks ≤ l.n;
  told : TellsJob l.job (state_of l.store);
}

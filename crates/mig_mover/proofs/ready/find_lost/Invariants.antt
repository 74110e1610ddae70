use Rattle.mig_mover.proofs.Common.{ChangesOnly, IsShifted, IsThere, NoCell, ℕ, ◌<◌, ◌≤◌}
use Rattle.mig_mover.proofs.ready.find_lost.Given as goal

abbrev pub invariant-loop-item : goal.invariant-loop-item
invariant-loop-item g l = record {
  there : (other : ℕ) → other < l.item → IsShifted l.job.plan other → IsThere l.job.input (g.S.Store.state l.initial.store).reads other;
  change : ChangesOnly NoCell (g.S.Store.state l.initial.store) (g.S.Store.state l.store);
  later : (g.S.Store.state l.initial.store).faults ≤ (g.S.Store.state l.store).faults;
}

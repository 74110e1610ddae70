use Rattle.mig_mover.proofs.Common.{AllWithin, ChangesOnly, IsVacant, NoCell, Remembers, slot_of, ◌≤◌}
use Rattle.mig_mover.proofs.expecting.expect_free.Given as goal

abbrev pub invariant-loop-v : goal.invariant-loop-v
invariant-loop-v g l = record {
  asked : AllWithin (λ v. IsVacant v l.found → g.S.Store.asked (slot_of l.job.input v.spot)) l.v-items 0 l.v-index;
  seen : Remembers NoCell (g.S.Store.seen l.initial.store) (g.S.Store.seen l.store);
  change : ChangesOnly NoCell (g.S.Store.state l.initial.store) (g.S.Store.state l.store);
  later : (g.S.Store.state l.initial.store).faults ≤ (g.S.Store.state l.store).faults;
}

use Rattle.mig_mover.proofs.Common.{AllWithin, ChangesOnly, NoCell, Remembers, round_at, slot_of, ◌≤◌}
use Rattle.mig_mover.proofs.expecting.expect_copies.Given as goal

abbrev pub invariant-loop-place : goal.invariant-loop-place
invariant-loop-place g l = record {
  compared : AllWithin (λ s. g.S.Store.compared (slot_of l.job.input s.from) (slot_of l.job.input s.to)) (round_at l.job.plan l.found) 0 l.place;
  seen : Remembers NoCell (g.S.Store.seen l.initial.store) (g.S.Store.seen l.store);
  change : ChangesOnly NoCell (g.S.Store.state l.initial.store) (g.S.Store.state l.store);
  later : (g.S.Store.state l.initial.store).faults ≤ (g.S.Store.state l.store).faults;
}

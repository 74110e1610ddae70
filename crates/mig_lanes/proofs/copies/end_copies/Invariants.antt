use Rattle.mig_lanes.proofs.Common.{Ends, Flight, List, ◌≤◌}
use Rattle.mig_base.specs.Images.{NoCell}
use Rattle.mig_store.specs.Grounds.{Remembers}
use Rattle.mig_lanes.proofs.copies.end_copies.Given as goal

abbrev pub invariant-loop : goal.invariant-loop
invariant-loop g l = record {
  ends : (these : List Flight) × Ends these (g.S.Store.state l.initial.store) (g.S.Store.state l.store);
  later : (g.S.Store.state l.initial.store).faults ≤ (g.S.Store.state l.store).faults;
  seen : Remembers NoCell (g.S.Store.seen l.initial.store) (g.S.Store.seen l.store);
}

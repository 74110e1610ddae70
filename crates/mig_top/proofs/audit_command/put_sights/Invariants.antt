use Rattle.mig_top.proofs.Common.{HavePutSights, Looks, ◌≤◌}
use Rattle.mig_top.proofs.audit_command.put_sights.Given as goal

-- the lines so far were put
abbrev pub invariant-loop-item : goal.invariant-loop-item
invariant-loop-item g l = record {
  put : HavePutSights l.input (g.S.Store.state l.initial.store) l.item (g.K.Sink.state l.initial.out) (g.K.Sink.state l.out) l.here;
  looks : Looks (g.S.Store.state l.initial.store) (g.S.Store.state l.store);
  later : (g.K.Sink.state l.initial.out).faults ≤ (g.K.Sink.state l.out).faults;
  store_later : (g.S.Store.state l.initial.store).faults ≤ (g.S.Store.state l.store).faults;
}

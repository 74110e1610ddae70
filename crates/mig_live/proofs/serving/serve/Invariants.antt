use Rattle.mig_live.proofs.Common.{AreMade, ArePut, Bool, Contents, InStep, IsSound, LeavesOnly, [], actions_left, all_steps, drop, flights, take, ◌-◌, ◌≡◌, ◌≤◌}
use Rattle.mig_live.specs.Sessions.{InSightFor}
use Rattle.mig_live.proofs.serving.serve.Given as goal

-- the orders so far are carried out
abbrev pub invariant-loop-order : goal.invariant-loop-order
invariant-loop-order g l = record {
  task : l.after.task ≡ l.initial.after.task;
  left : l.after.left ≡ l.initial.after.left - all_steps (take l.order-index l.orders);
  rest : actions_left l.after ≡ drop (all_steps (take l.order-index l.orders)) (actions_left l.initial.after);
  made : AreMade (take (all_steps (take l.order-index l.orders)) (actions_left l.initial.after)) (g.S.Store.state l.initial.store) (g.S.Store.state l.store);
  served : ArePut l.initial.after (g.S.Store.state l.initial.store) (take l.order-index l.orders) (g.K.Sink.state l.initial.out) (g.K.Sink.state l.out);
  in_step : (asked : Bool) (contents : Contents) → InStep asked l.initial.after contents (g.S.Store.state l.initial.store) → InStep asked l.after contents (g.S.Store.state l.store);
  any_moment : (asked : Bool) (contents : Contents) → InStep asked l.initial.after contents (g.S.Store.state l.initial.store)
      → LeavesOnly (IsSound asked l.initial.after.task.input l.initial.after.task.plan l.initial.after.task.digest contents) (g.S.Store.state l.initial.store) (g.S.Store.state l.store);
  landed : flights (g.S.Store.state l.store) ≡ [];
  later : (g.S.Store.state l.initial.store).faults ≤ (g.S.Store.state l.store).faults;
  sink_later : (g.K.Sink.state l.initial.out).faults ≤ (g.K.Sink.state l.out).faults;
  seen : g.S.Store.refuses → InSightFor l.initial.after l.orders (g.S.Store.seen l.initial.store) (g.S.Store.state l.initial.store).reads
      → InSightFor l.after l.orders (g.S.Store.seen l.store) (g.S.Store.state l.store).reads;
}

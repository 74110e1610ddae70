use Rattle.mig_live.proofs.Common.{AreMade, Bool, Contents, InStep, IsSound, LeavesOnly, [], actions_left, drop, flights, take, ◌+◌, ◌≡◌, ◌≤◌}
use Rattle.mig_live.specs.Sessions.{InSight}
use Rattle.mig_live.proofs.live.Live.advance.Given as goal

abbrev pub invariant-loop : goal.invariant-loop
invariant-loop g l = record {
  task : l.live.task ≡ l.initial.live.task;
  left : l.live.left + l.counter ≡ l.initial.live.left;
  rest : actions_left l.live ≡ drop l.counter (actions_left l.initial.live);
  made : AreMade (take l.counter (actions_left l.initial.live)) (g.S.Store.state l.initial.store) (g.S.Store.state l.store);
  any_moment : (asked : Bool) (contents : Contents) → InStep asked l.initial.live contents (g.S.Store.state l.initial.store)
      → LeavesOnly (IsSound asked l.initial.live.task.input l.initial.live.task.plan l.initial.live.task.digest contents) (g.S.Store.state l.initial.store) (g.S.Store.state l.store);
  in_step : (asked : Bool) (contents : Contents) → InStep asked l.initial.live contents (g.S.Store.state l.initial.store) → InStep asked l.live contents (g.S.Store.state l.store);
  landed : flights (g.S.Store.state l.store) ≡ [];
  later : (g.S.Store.state l.initial.store).faults ≤ (g.S.Store.state l.store).faults;
  seen : g.S.Store.refuses → InSight l.initial.live (g.S.Store.seen l.initial.store) (g.S.Store.state l.initial.store).reads
      → InSight l.live (g.S.Store.seen l.store) (g.S.Store.state l.store).reads;
}

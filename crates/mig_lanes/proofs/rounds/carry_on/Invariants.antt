use Rattle.mig_lanes.proofs.Common.{Adds, AreRounds, Bool, Changes, Contents, Event, HasDone, IsSound, IsWorkCell, LeavesOnly, List, [], copies_of, flights, map, range_with_len, ◌+◌, ◌-◌, ◌≡◌}
use Rattle.mig_lanes.proofs.Common.{◌≤◌}
use Rattle.mig_mover.specs.Holdings.{IsSeen}
use Rattle.mig_lanes.proofs.rounds.carry_on.Given as goal

abbrev pub invariant-loop-done : goal.invariant-loop-done
invariant-loop-done g l = record {
  low : l.k ≤ l.done;
  any_moment : (asked : Bool) (contents : Contents) → HasDone asked l.job.input l.job.plan l.job.digest contents (g.S.Store.state l.initial.store) l.k → LeavesOnly (IsSound asked l.job.input l.job.plan l.job.digest contents) (g.S.Store.state l.initial.store) (g.S.Store.state l.store);
  done : (asked : Bool) (contents : Contents) → HasDone asked l.job.input l.job.plan l.job.digest contents (g.S.Store.state l.initial.store) l.k → HasDone asked l.job.input l.job.plan l.job.digest contents (g.S.Store.state l.store) l.done;
  landed : flights (g.S.Store.state l.store) ≡ [];
  rounds : Adds (AreRounds (map (copies_of l.job) (range_with_len (l.k + 1) (l.done - l.k)))) (g.S.Store.state l.initial.store) (g.S.Store.state l.store);
  change : (added : List Event) × Changes (IsWorkCell l.job.input l.job.plan) (IsWorkCell l.job.input l.job.plan) added (g.S.Store.state l.initial.store) (g.S.Store.state l.store);
  later : (g.S.Store.state l.initial.store).faults ≤ (g.S.Store.state l.store).faults;
  seen : g.S.Store.refuses → IsSeen l.job (g.S.Store.seen l.initial.store) (g.S.Store.state l.initial.store).reads l.k → IsSeen l.job (g.S.Store.seen l.store) (g.S.Store.state l.store).reads l.done;
}

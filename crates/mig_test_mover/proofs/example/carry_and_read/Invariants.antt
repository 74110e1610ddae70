use Rattle.std.proofs.Common.{◌≡◌, [], false, ◌+◌}
use Rattle.mig_base.specs.JobCells.{IsJobCell, SettlesTo, Tells}
use Rattle.mig_base.specs.Safety.{Contents, IsSound}
use Rattle.mig_base.specs.Stores.{flights}
use Rattle.mig_live.specs.Sessions.{InStep}
use Rattle.mig_mover.specs.Erasures.{AreAsked}
use Rattle.mig_test_mover.proofs.example.carry_and_read.Given as goal

-- the session is at the step, and the item was read as it was
abbrev pub invariant-loop : goal.invariant-loop
invariant-loop g l = record {
  task : l.live.task ≡ l.fn.job;
  asked : AreAsked g.S.Store.asked l.live.task;
  left : l.live.left + l.counter ≡ l.initial.live.left;
  landed : flights (g.S.Store.state l.store) ≡ [];
  read : (contents : Contents) → Tells (IsJobCell l.fn.job.input l.fn.job.plan) (g.S.Store.state l.fn.store).reads → SettlesTo (IsSound false l.fn.job.input l.fn.job.plan l.fn.job.digest contents) (g.S.Store.state l.fn.store)
      → InStep false l.live contents (g.S.Store.state l.store) × (l.page ≡ contents l.fn.item.0);
}

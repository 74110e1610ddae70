use Rattle.std.proofs.Common.{arith, false, subst, sym, ◌∙◌}
use Rattle.mig_base.proofs.Landing.{flights_same}
use Rattle.mig_mover.specs.Erasures.{AreAsked}
use Rattle.mig_test_mover.proofs.example.carry_and_read.Goals as goal

pub loop-init : goal.loop-init
loop-init g c = record {
  task = c.in_ok-live.ensures.task;
  asked = c.in_ok-live.ensures.asked;
  left = omega arith;
  landed = flights_same (g.S.Store.state c.enter.new.store) (g.S.Store.state c.read.new.store) c.in_ok-read.ensures.change.events ∙ c.in_ok-live.ensures.enters.landed;
  read = λ contents told settles.
      let at = c.in_ok-live.ensures.in_step false contents told settles in
      (c.in_ok-read.ensures.in_step false contents at, c.in_ok-read.ensures.bytes false contents at);
}

pub loop-preserved : goal.loop-preserved
loop-preserved g c = record {
  task = c.in_ok-live-2.ensures.task ∙ c.loop.invariant.task;
  asked = subst (AreAsked g.S.Store.asked) (sym c.in_ok-live-2.ensures.task) c.loop.invariant.asked;
  left = omega (arith, c.in_ok-live-2.ensures.left, c.loop.invariant.left);
  landed = flights_same (g.S.Store.state c.step.new.store) (g.S.Store.state c.read-in-loop.new.store) c.in_ok-read-2.ensures.change.events ∙ c.in_ok-live-2.ensures.landed;
  read = λ contents told settles.
      let at = c.in_ok-live-2.ensures.in_step false contents (c.loop.invariant.read contents told settles).0 in
      (c.in_ok-read-2.ensures.in_step false contents at, c.in_ok-read-2.ensures.bytes false contents at);
}

pub returns : goal.returns
returns g c = λ contents told settles. (c.loop.invariant.read contents told settles).1

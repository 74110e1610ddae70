use Rattle.mig_euler.proofs.Common.{AllInRange, arith, length, subst, sym, ◌<◌}
use Rattle.mig_euler.proofs.FollowLaws.{none_waits, waits_end, following_more, follow_falls}
use Rattle.mig_euler.proofs.trails.follow.Goals as goal

pub returns-then-edge-ends-clause-trail : goal.returns-then-edge-ends-clause-trail
returns-then-edge-ends-clause-trail c =
    record {
      end = c.loop-at.at;
      trail = c.loop-at.invariant.trail;
      stuck = none_waits c.args.ends.now c.loop-at.directions c.loop-at.at c.waiting_edge-edge.result (omega (arith, c.if-edge-ends.true)) c.waiting_edge-edge.ensures.passed;
    }

pub step_from-step-requires : goal.step_from-step-requires
step_from-step-requires c =
    let h : c.waiting_edge-edge.result < length c.args.ends.now = omega (arith, c.waiting_edge-edge.ensures.bound, c.if-edge-ends.false) in
    waits_end _ _ _ _ _ h (c.waiting_edge-edge.ensures.found h)

pub loop-at-smaller : goal.loop-at-smaller
loop-at-smaller c =
    let h : c.waiting_edge-edge.result < length c.args.ends.now = omega (arith, c.waiting_edge-edge.ensures.bound, c.if-edge-ends.false) in
    follow_falls c.args.ends.now c.loop-at.directions c.loop-at.at c.waiting_edge-edge.result (record { 0 = 0 }, record { 0 = 0 }) _ h (c.waiting_edge-edge.ensures.found h)

pub loop-at-preserved : goal.loop-at-preserved
loop-at-preserved c =
    let h : c.waiting_edge-edge.result < length c.args.ends.now = omega (arith, c.waiting_edge-edge.ensures.bound, c.if-edge-ends.false) in
    following_more c.args.ends.now c.args.directions.now c.loop-at.directions c.loop-at.from c.args.start c.loop-at.at c.step_from-step.result.1
    (subst (λ m. AllInRange c.args.ends.now m) (sym c.loop-at.auto.from) c.requires.in_range) c.loop-at.invariant c.waiting_edge-edge.result (record { 0 = 0 }, record { 0 = 0 }) c.step_from-step.result.0 h
    c.waiting_edge-edge.ensures.passed (c.waiting_edge-edge.ensures.found h) c.step_from-step.ensures.tail c.step_from-step.ensures.head

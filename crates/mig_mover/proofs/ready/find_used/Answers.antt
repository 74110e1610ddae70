use Rattle.mig_mover.proofs.Common.{IsUnused, arith, no_spot, quiet_same, then_quiet}
use Rattle.mig_mover.proofs.TargetLaws.{next_within}
use Rattle.mig_mover.proofs.ready.find_used.Goals as goal

pub loop-spot-preserved : goal.loop-spot-preserved
loop-spot-preserved g c =
    let same = quiet_same _ _ c.loop-spot.invariant.change in
    record {
      unused = next_within (IsUnused c.args.job.now.input (g.S.Store.state c.args.store.now).reads) c.targets-spot-items.result.now
          c.loop-spot.spot-index no_spot
          c.loop-spot-test.true c.loop-spot.invariant.unused (rw (c.if-branch.false, c.input.ensures.value, ← same) at
          c.in_ok-is_used.ensures.answer);
      change = then_quiet _ _ _ _ c.loop-spot.invariant.change c.is_used.ensures.change;
      later = omega (arith, c.loop-spot.invariant.later, c.is_used.ensures.cause.later);
    }

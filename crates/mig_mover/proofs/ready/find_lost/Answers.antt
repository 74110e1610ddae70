use Rattle.mig_mover.proofs.Common.{IsShifted, IsThere, arith, quiet_same, then_quiet}
use Rattle.mig_mover.proofs.TargetLaws.{next_item}
use Rattle.mig_mover.proofs.ready.find_lost.Goals as goal

pub loop-item-preserved : goal.loop-item-preserved
loop-item-preserved g c =
    let same = quiet_same _ _ c.loop-item.invariant.change in
    record {
      there = next_item (λ i. IsShifted c.args.job.now.plan i → IsThere c.args.job.now.input (g.S.Store.state c.args.store.now).reads i)
          c.loop-item.item
          c.loop-item.invariant.there (rw (c.if-branch.false, ← same) at c.in_ok-is_lost.ensures.answer);
      change = then_quiet _ _ _ _ c.loop-item.invariant.change c.is_lost.ensures.change;
      later = omega (arith, c.loop-item.invariant.later, c.is_lost.ensures.cause.later);
    }

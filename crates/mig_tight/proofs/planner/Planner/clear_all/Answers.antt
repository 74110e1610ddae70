use Rattle.mig_tight.proofs.Common.{List, Name, ap, arith, length, ◌≤◌}
use Rattle.mig_tight.proofs.StateSteps.{cleared_more}
use Rattle.mig_tight.proofs.planner.Planner.clear_all.Goals as goal

pub loop-item-preserved : goal.loop-item-preserved
loop-item-preserved c =
    let on = c.in_ok-clear.ensures.preserves in
    let le : c.loop-item.item ≤ length c.args.input.now.items = omega (arith, c.loop-item-test.true, ap (λ (l : List Name). length l) c.items-item-end.ensures.value) in
    record {
      sound = c.in_ok-clear.ensures.sound;
      unawaited = c.in_ok-clear.ensures.unawaited;
      spare = omega (arith, c.loop-item.invariant.spare, on.spares_len);
      cleared = cleared_more c.args.input.now c.loop-item.item c.loop-item.self c.clear.new.self le on c.loop-item.invariant.cleared c.in_ok-clear.ensures.cleared;
    }

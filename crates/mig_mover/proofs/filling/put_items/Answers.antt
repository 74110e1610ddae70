use Rattle.mig_mover.proofs.Common.{arith, no_spot, refl}
use Rattle.mig_mover.proofs.FillSteps.{listed_cell, made_more}
use Rattle.mig_mover.proofs.Settling.{slot_step}
use Rattle.mig_mover.proofs.filling.put_items.Goals as goal

pub put_item-requires-clause-asked : goal.put_item-requires-clause-asked
put_item-requires-clause-asked g c = c.requires.asked c.loop-item.item no_spot
    (rw (← c.keeps_rules.ensures.spots_len) at (rw c.items-item-end.ensures.value at c.loop-item-test.true))

pub returns-in_err-put_item-clause-change : goal.returns-in_err-put_item-clause-change
returns-in_err-put_item-clause-change g c = slot_step c.loop-item.invariant.change c.put_item.ensures.change
    (listed_cell c.args.input.now c.keeps_rules.ensures c.loop-item.item (rw c.items-item-end.ensures.value at c.loop-item-test.true) _ refl)

pub loop-item-preserved : goal.loop-item-preserved
loop-item-preserved g c =
    let input = c.args.input.now in
    let lt = rw c.items-item-end.ensures.value at c.loop-item-test.true in
    record {
      made = made_more input c.keeps_rules.ensures c.loop-item.item lt _ _ c.put_item.ensures.change.told c.loop-item.invariant.made
          c.in_ok-put_item.ensures.made;
      change = slot_step c.loop-item.invariant.change c.put_item.ensures.change (listed_cell input c.keeps_rules.ensures c.loop-item.item lt _ refl);
      later = omega (arith, c.loop-item.invariant.later, c.put_item.ensures.cause.later);
    }

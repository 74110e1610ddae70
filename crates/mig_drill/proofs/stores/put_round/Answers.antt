use Rattle.mig_drill.proofs.Common.{IsListedCell, arith, get_or, item_cell, no_shift, refl, state_of, still_none, then_step, ◌≡◌}
use Rattle.mig_drill.proofs.FillLaws.{listed_here, made_kept, made_more}
use Rattle.mig_drill.proofs.stores.put_round.Goals as goal

pub put_item-requires-clause-none : goal.put_item-requires-clause-none
put_item-requires-clause-none c = still_none (IsListedCell c.args.input.now) (state_of c.args.store.now) (state_of c.loop-shift.store) c.requires.none c.loop-shift.invariant.change

pub returns-in_err-put_item-clause-change : goal.returns-in_err-put_item-clause-change
returns-in_err-put_item-clause-change c =
    let input = c.args.input.now in
    let item = (get_or c.args.shifts.now c.loop-shift.shift-index no_shift).item.0 in
    then_step (IsListedCell input) (state_of c.args.store.now) (state_of c.loop-shift.store) (λ cell. cell ≡ item_cell input item) (state_of c.put_item.new.store)
    (listed_here input c.keeps_rules.ensures item (c.requires.items c.loop-shift.shift-index no_shift c.loop-shift-test.true)) c.loop-shift.invariant.change c.put_item.ensures.change

pub loop-shift-preserved : goal.loop-shift-preserved
loop-shift-preserved c =
    let input = c.args.input.now in
    let valid = c.keeps_rules.ensures in
    let first = state_of c.args.store.now in
    let mid = state_of c.loop-shift.store in
    let new = state_of c.put_item.new.store in
    let item = (get_or c.args.shifts.now c.loop-shift.shift-index no_shift).item.0 in
    let within = c.requires.items c.loop-shift.shift-index no_shift c.loop-shift-test.true in
    record {
      made = made_more input valid mid.reads new.reads item within c.put_item.ensures.change.told c.in_ok-put_item.ensures.made c.args.shifts.now c.loop-shift.shift-index no_shift c.loop-shift-test.true refl c.requires.items c.loop-shift.invariant.made;
      kept = λ k lt made. made_kept input valid mid.reads new.reads item within c.put_item.ensures.change.told c.in_ok-put_item.ensures.made k lt (c.loop-shift.invariant.kept k lt made);
      change = then_step (IsListedCell input) first mid (λ cell. cell ≡ item_cell input item) new (listed_here input valid item within) c.loop-shift.invariant.change c.put_item.ensures.change;
    }

pub returns-clause-made : goal.returns-clause-made
returns-clause-made c = λ k d lt. c.loop-shift.invariant.made k d (omega arith) (omega (arith, lt, c.loop-shift-test.false))

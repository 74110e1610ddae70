use Rattle.mig_check.proofs.Common.{List, Spot, ap, arith, counts_at, get_or, get_or_default, length, passing, ◌∙◌, ◌≡◌}
use Rattle.mig_check.proofs.MoveCounts.{counted_more, passing_all, passing_most}
use Rattle.mig_check.proofs.loads.fill_loads.Goals as goal

pub count_move-requires-clause-room : goal.count_move-requires-clause-room
count_move-requires-clause-room c = λ k d h.
    let valid = c.now-spot-items.ensures.valid in
    omega (arith, get_or_default c.loop-i.loads k d 0 h, passing_most c.args.input.now (counts_at c.args.part k) c.loop-i.i, c.loop-i.invariant k h, c.loop-i-test.true, ap (λ (s : List Spot). length s) c.now-spot-items.ensures.value, valid.spots_len, valid.few_items)

pub loop-i-preserved : goal.loop-i-preserved
loop-i-preserved c = λ v h.
    counted_more c.args.input.now (counts_at c.args.part v) c.now-spot-items.result.now c.next-next.result.now c.loop-i.i (get_or c.loop-i.loads v 0) (get_or c.count_move.new.loads v 0)
    c.now-spot-items.ensures.value c.next-next.ensures.value (c.count_move.ensures v h) (c.loop-i.invariant v (omega (arith, h, c.count_move.auto.loads)))

pub returns : goal.returns
returns c =
    let input = c.args.input.now in
    let valid = c.now-spot-items.ensures.valid in
    let whole : c.loop-i.i ≡ length input.items = omega (arith, c.loop-i-test.false, c.loop-i.auto.i-end, ap (λ (s : List Spot). length s) c.now-spot-items.ensures.value, valid.spots_len) in
    record {
      len = c.loop-i.auto.loads ∙ c.requires.len;
      each = λ v h. c.loop-i.invariant v h ∙ ap (passing input (counts_at c.args.part v)) whole ∙ passing_all input (counts_at c.args.part v);
    }

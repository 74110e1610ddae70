use Rattle.mig_check.proofs.Common.{List, Spot, ap, arith, get_or, is_inside, length, no_spot, numbers, passing, ◌∙◌, ◌≡◌}
use Rattle.mig_check.proofs.MoveCounts.{counted_more, ends_there, inside_by_marks, no_more, one_more, passes_at, passing_all, passing_most}
use Rattle.mig_check.proofs.counted.count_inside.Goals.{then-moves_inside, else-moves_inside}
use Rattle.mig_check.proofs.counted.count_inside.Goals as goal

pub overflow_add-inside : goal.overflow_add-inside
overflow_add-inside c =
    let valid = c.now-spot-items.ensures.valid in
    omega (arith, c.loop-i.invariant, passing_most c.args.input.now (is_inside (numbers c.args.set.now)) c.loop-i.i, c.loop-i-test.true, ap (λ (s : List Spot). length s) c.now-spot-items.ensures.value, valid.spots_len, valid.few_items)

pub loop-i-preserved : goal.loop-i-preserved
loop-i-preserved c =
    let input = c.args.input.now in
    let set = numbers c.args.set.now in
    let spots = c.now-spot-items.result.now in
    let next = c.next-next.result.now in
    let i = c.loop-i.i in
    let valid = c.now-spot-items.ensures.valid in
    let ends = ends_there input spots next i valid c.now-spot-items.ensures.value c.next-next.ensures.value c.loop-i-test.true in
    let from = (get_or spots i no_spot).disk.0 in
    let to = (get_or next i (record { 0 = 0 })).0 in
    let same : c.moves_inside.result ≡ passes_at (is_inside set) spots next i = inside_by_marks c.args.members.now set from to c.moves_inside.result
    (c.requires.marked from (omega (arith, ends.0, c.requires.len))) (c.requires.marked to (omega (arith, ends.1, c.requires.len))) c.moves_inside.ensures in
    counted_more input (is_inside set) spots next i c.loop-i.inside c.if-moves_inside.inside c.now-spot-items.ensures.value c.next-next.ensures.value
    (elim c.if-moves_inside.branch [
      | then-moves_inside w ↦ one_more c.moves_inside.result (passes_at (is_inside set) spots next i) c.if-moves_inside.inside c.loop-i.inside same w.if-moves_inside.true w.inside-is
      | else-moves_inside w ↦ no_more c.moves_inside.result (passes_at (is_inside set) spots next i) c.if-moves_inside.inside c.loop-i.inside same w.if-moves_inside.false w.inside-is
    ])
    c.loop-i.invariant

pub returns : goal.returns
returns c =
    let input = c.args.input.now in
    let p = is_inside (numbers c.args.set.now) in
    let valid = c.now-spot-items.ensures.valid in
    let whole : c.loop-i.i ≡ length input.items = omega (arith, c.loop-i-test.false, c.loop-i.auto.i-end, ap (λ (s : List Spot). length s) c.now-spot-items.ensures.value, valid.spots_len) in
    c.loop-i.invariant ∙ ap (passing input p) whole ∙ passing_all input p

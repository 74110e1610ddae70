use Rattle.mig_plan.proofs.Common.{Bool, List, ap, arith, get_or, length, no_spot, places, rules, set, true, with_items, with_items_is, ◌<◌, ◌∙◌}
use Rattle.mig_plan.proofs.SlotLaws.{AreTaken-more}
use Rattle.mig_plan.proofs.slots.rows_of.Goals as goal

pub loop-spot-preserved : goal.loop-spot-preserved
loop-spot-preserved c =
    let i = c.loop-spot.spot-index in
    let spot = get_or c.args.spots.now i no_spot in
    let rows = c.loop-spot.rows.items in
    let there : spot.disk.0 < length rows = omega (arith, c.requires i no_spot c.loop-spot-test.true, c.loop-spot.invariant.len) in
    AreTaken-more c.args.widths.now c.args.spots.now i no_spot rows c.index_mut.result.now (with_items c.index_mut.result.now c.take.new.row) c.loop-spot-test.true there c.index_mut.ensures.value
    (with_items_is c.index_mut.result.now c.take.new.row (search (rules, places)) ∙ c.take.ensures ∙ ap (λ (row : List Bool). set row spot.slot true) c.deref_mut.ensures.value) c.loop-spot.invariant

use Rattle.mig_plan.proofs.Common.{Shift, [], ap, arith, colour_at, length, length-set, ◌++◌, ◌<◌, ◌∙◌, ◌∷◌}
use Rattle.mig_plan.proofs.RowLaws.{AreRows-more}
use Rattle.mig_plan.proofs.rows.rows_of.Goals as goal

pub loop-edge-preserved : goal.loop-edge-preserved
loop-edge-preserved c =
    let i = c.loop-edge.edge in
    let v = colour_at c.args.colours.now i in
    let rows = c.loop-edge.rows.items in
    let there : v < length rows = omega (arith, c.loop-edge.invariant.len, c.requires.below i (record { 0 = 0 }) (omega (arith, c.loop-edge-test.true, c.edges-edges.ensures.edges, c.requires.colours))) in
    let new = c.in_ok-push.ensures.items ∙ ap (λ (s : Shift). c.index_mut.result.now.items ++ s ∷ []) c.shift_of-shift.ensures in
    record {
      len = length-set rows v c.push.new.self ∙ c.loop-edge.invariant.len;
      rows = AreRows-more c.args.input.now c.args.targets.now c.args.colours.now i rows c.index_mut.result.now c.push.new.self there c.index_mut.ensures.value new c.loop-edge.invariant.rows;
    }

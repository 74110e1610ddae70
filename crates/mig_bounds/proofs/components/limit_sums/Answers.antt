use Rattle.mig_bounds.proofs.Common.{arith, get_or, get_or_default, length, ◌+◌, ◌<◌, ◌∙◌, ◌≡◌}
use Rattle.mig_bounds.proofs.ComponentCounts.{AreLimitSums-more}
use Rattle.mig_bounds.proofs.components.limit_sums.Goals as goal

pub loop-disk-preserved : goal.loop-disk-preserved
loop-disk-preserved c =
    let g = c.args.graph.now in
    let labels = c.args.labels.now in
    let v = c.loop-disk.disk in
    let sums = c.loop-disk.sums.items in
    let r = get_or labels v 0 in
    let v_there : v < length labels = omega (arith, c.requires.labelling.len, c.loop-disk-test.true, c.disks-disk-end.ensures.disks) in
    let r_there : r < length labels = omega (arith, c.requires.labelling.least v v_there, v_there) in
    let old : c.index_mut.result.now ≡ get_or sums r 0 = c.index_mut.ensures.value ∙ get_or_default sums r c.index_mut.result.now 0 (omega (arith, r_there, c.loop-disk.invariant.len)) in
    AreLimitSums-more g labels sums v (c.index_mut.result.now + c.limit.result) r_there (omega (arith, c.limit.ensures.limit, c.limit.ensures.most)) (omega (arith, old, c.limit.ensures.limit)) c.loop-disk.invariant

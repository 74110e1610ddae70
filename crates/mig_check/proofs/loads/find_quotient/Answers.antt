use Rattle.mig_check.proofs.Common.{part_value, transfer_graph}
use Rattle.mig_check.proofs.MoveCounts.{need_is, quotient_more}
use Rattle.mig_check.proofs.loads.find_quotient.Goals as goal

pub loop-v-preserved : goal.loop-v-preserved
loop-v-preserved c =
    let input = c.args.input.now in
    let need = need_is c.args.part input c.args.loads.now c.disks-disk-items.result.now c.loop-v.v c.part_limit.result c.div_ceil.result c.disk-item.result c.requires c.disks-disk-items.ensures.value c.loop-v-test.true c.disk-item.is c.part_limit.ensures.limit c.div_ceil.ensures in
    quotient_more (part_value c.args.part (transfer_graph input)) c.loop-v.v c.loop-v.greatest c.div_ceil.result c.max-greatest.result c.loop-v.invariant need c.max-greatest.ensures

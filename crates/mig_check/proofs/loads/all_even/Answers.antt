use Rattle.mig_check.proofs.Common.{false≢true}
use Rattle.mig_check.proofs.MoveCounts.{odd_breaks}
use Rattle.mig_check.proofs.loads.all_even.Goals as goal

pub returns-then-most_ends-ne0 : goal.returns-then-most_ends-ne0
returns-then-most_ends-ne0 c = (
  λ h. absurd (false≢true h),
  λ even. absurd (odd_breaks c.args.input.now c.args.loads.now c.disks-disk-items.result.now c.loop-v.v c.most_ends.result c.disk-item.result c.requires.loads c.disks-disk-items.ensures.value c.loop-v-test.true c.disk-item.is c.most_ends.ensures c.if-load-gt0.true c.if-most_ends-ne0.true even),
)

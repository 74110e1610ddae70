use Rattle.mig_check.proofs.Common.{DiskId, List, ap, arith, limit_sum, numbers, subst, sym, take, take_all, transfer_graph, ◌+◌, ◌∙◌, ◌≡◌}
use Rattle.mig_check.proofs.MoveCounts.{SumStep, sum_step}
use Rattle.mig_check.proofs.counted.sum_limits.Goals as goal

next : (c : goal.After-most_ends-sum) → SumStep c.args.input.now c.ids-disk-items.result.now c.loop-disk.disk-index (c.loop-disk.sum + c.most_ends-sum.result)
next c = subst (λ m. SumStep c.args.input.now c.ids-disk-items.result.now c.loop-disk.disk-index (c.loop-disk.sum + m)) (sym c.most_ends-sum.ensures) (sum_step c.args.input.now c.args.set.now c.ids-disk-items.result.now c.disks-disks.result.now c.loop-disk.disk-index c.loop-disk.sum (record { 0 = 0 }) c.index-disks-disk.result
    c.disks-disks.ensures.valid c.disks-disks.ensures.value c.ids-disk-items.ensures.value c.requires c.ids-disk-items.ensures.increasing c.loop-disk-test.true c.loop-disk.invariant.is c.loop-disk.invariant.most)

pub overflow_add-sum : goal.overflow_add-sum
overflow_add-sum c = let step = next c in omega (arith, step.fits)

pub loop-disk-preserved : goal.loop-disk-preserved
loop-disk-preserved c = let step = next c in record { is = step.is; most = step.most }

pub returns : goal.returns
returns c =
    let items = c.ids-disk-items.result.now in
    let whole : take c.loop-disk.disk-index items ≡ c.args.set.now = take_all c.loop-disk.disk-index items c.loop-disk-test.false ∙ c.ids-disk-items.ensures.value in
    c.loop-disk.invariant.is ∙ ap (λ (s : List DiskId). limit_sum (transfer_graph c.args.input.now) (numbers s)) whole

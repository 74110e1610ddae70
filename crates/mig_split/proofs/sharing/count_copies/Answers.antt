use Rattle.mig_split.proofs.Common.{ap, arith, copy_at, get_or_default, length-take-le, ℕ, ◌+◌, ◌<◌, ◌∙◌}
use Rattle.mig_split.proofs.Filling.{AreCopyCounts-more, AreCopyCounts-few}
use Rattle.mig_split.proofs.sharing.count_copies.Goals as goal

pub overflow_add-index_mut : goal.overflow_add-index_mut
overflow_add-index_mut c =
    let i = c.loop-stop.stop-index in
    let k = copy_at c.args.stops.now i in
    let there : k < c.args.copies = c.requires.there i (record { 0 = 0 }) c.loop-stop-test.true in
    let a = c.loop-stop.invariant in
    omega (arith, c.index_mut.ensures.value, get_or_default c.loop-stop.counts.items k c.index_mut.result.now 0 (omega (arith, there, a.len)), AreCopyCounts-few c.args.copies c.args.stops.now c.loop-stop.counts.items i k there a, length-take-le i c.args.stops.now (omega (arith, c.loop-stop-test.true)), c.requires.few)

pub loop-stop-preserved : goal.loop-stop-preserved
loop-stop-preserved c =
    let i = c.loop-stop.stop-index in
    let k = copy_at c.args.stops.now i in
    let there : k < c.args.copies = c.requires.there i (record { 0 = 0 }) c.loop-stop-test.true in
    let a = c.loop-stop.invariant in
    AreCopyCounts-more c.args.copies c.args.stops.now c.loop-stop.counts.items i (c.index_mut.result.now + 1) c.loop-stop-test.true there
    (ap (λ (n : ℕ). n + 1) (c.index_mut.ensures.value ∙ get_or_default c.loop-stop.counts.items k c.index_mut.result.now 0 (omega (arith, there, a.len)))) a

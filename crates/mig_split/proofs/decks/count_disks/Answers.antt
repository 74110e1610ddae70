use Rattle.mig_split.proofs.Common.{ap, arith, get_or_default, length-take-le, listed_disk, ℕ, ◌+◌, ◌<◌, ◌∙◌}
use Rattle.mig_split.proofs.Counts.{AreCounts-more, AreCounts-few}
use Rattle.mig_split.proofs.decks.count_disks.Goals as goal

pub overflow_add-index_mut : goal.overflow_add-index_mut
overflow_add-index_mut c =
    let i = c.loop-stop.stop-index in
    let there : listed_disk c.args.stops.now i < c.args.disks = c.requires.there i (record { 0 = 0 }) c.loop-stop-test.true in
    let a = c.loop-stop.invariant in
    let v = listed_disk c.args.stops.now i in
    omega (arith, c.index_mut.ensures.value, get_or_default c.loop-stop.counts.items v c.index_mut.result.now 0 (omega (arith, there, a.len)), AreCounts-few c.args.disks c.args.stops.now c.loop-stop.counts.items i v there a, length-take-le i c.args.stops.now (omega (arith, c.loop-stop-test.true)), c.requires.few)

pub loop-stop-preserved : goal.loop-stop-preserved
loop-stop-preserved c =
    let i = c.loop-stop.stop-index in
    let v = listed_disk c.args.stops.now i in
    let there : v < c.args.disks = c.requires.there i (record { 0 = 0 }) c.loop-stop-test.true in
    let a = c.loop-stop.invariant in
    AreCounts-more c.args.disks c.args.stops.now c.loop-stop.counts.items i (c.index_mut.result.now + 1) c.loop-stop-test.true there
    (ap (λ (n : ℕ). n + 1) (c.index_mut.ensures.value ∙ get_or_default c.loop-stop.counts.items v c.index_mut.result.now 0 (omega (arith, there, a.len)))) a

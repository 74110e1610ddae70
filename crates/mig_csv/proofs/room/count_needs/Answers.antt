use Rattle.mig_csv.proofs.Common.{arith, take-append_seam}
use Rattle.mig_csv.proofs.Needs.{incoming-le, left_over-next, present-le}
use Rattle.mig_csv.proofs.room.count_needs.Goals as goal

pub add_needs-requires-clause-few : goal.add_needs-requires-clause-few
add_needs-requires-clause-few c v =
    let i = c.args.input.now in
    let is = c.next-next.ensures.valid in
    let few = is.few_items in
    let lens = is.spots_len in
    rw c.deref_mut.ensures.value (omega (arith, c.loop-item.invariant.each v, present-le i v, incoming-le i v))

pub loop-item-preserved : goal.loop-item-preserved
loop-item-preserved c = grind (arith, take-append_seam, left_over-next)

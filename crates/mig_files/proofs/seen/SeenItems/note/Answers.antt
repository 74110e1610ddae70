use Rattle.mig_files.proofs.Common.{ap, arith, is_item, one_if}
use Rattle.mig_files.proofs.SeenItems.{seen_twice, times_le, same_own}
use Rattle.mig_files.proofs.seen.SeenItems.note.Goals as goal

pub raise-requires-clause-small : goal.raise-requires-clause-small
raise-requires-clause-small c =
    let item = c.args.item.now in
    let lowered = c.lower.ensures item in
    let counted = c.self.invariant.counted item in
    let put = c.in_ok-before.ensures.put.counts item in
    let few = times_le c.put_at.new.slots.entries item in
    let one = ap one_if (same_own item) in
    let before = ap (λ o. one_if (is_item item o)) c.in_ok-before.ensures.before in
    omega arith

pub raise-requires-clause-counted : goal.raise-requires-clause-counted
raise-requires-clause-counted c = λ copied.
    let item = c.args.item.now in
    let lowered = c.lower.ensures item in
    let counted = c.self.invariant.counted item in
    let put = c.in_ok-before.ensures.put.counts item in
    let twice = seen_twice c.args.from c.args.slot.now item c.in_ok-before.ensures.put (rw c.self.view_is c.requires) (rw (← c.is_some.ensures) copied) in
    let one = ap one_if (same_own item) in
    let before = ap (λ o. one_if (is_item item o)) c.in_ok-before.ensures.before in
    omega arith

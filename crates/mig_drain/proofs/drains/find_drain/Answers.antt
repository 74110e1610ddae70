use Rattle.mig_drain.proofs.Common.{List, Receiver, all_free, ap, arith, get_or_read, length, ◌<◌, ◌∙◌}
use Rattle.mig_drain.proofs.ReceiverLaws.{all_free_is}
use Rattle.mig_drain.proofs.drains.find_drain.Goals as goal

pub returns-then-free-items-clause-cause : goal.returns-then-free-items-clause-cause
returns-then-free-items-clause-cause c =
    let input = c.args.input.now in
    let v = c.args.disk.0 in
    let counts = c.in_ok-counts.counts.items in
    let lt : v < length counts = omega (arith, c.requires, c.in_ok-counts.ensures.len) in (
      get_or_read counts v c.index-items.result.now lt c.index-items.ensures 0 ∙ c.in_ok-counts.ensures.count v c.requires,
      c.total_free-free.ensures ∙ ap (λ (l : List Receiver). all_free l) (c.deref-2.ensures.value ∙ c.in_ok-receivers.ensures.receivers) ∙ all_free_is input v,
      c.if-free-items.true,
    )

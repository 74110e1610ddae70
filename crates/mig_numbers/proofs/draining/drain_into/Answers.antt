use Rattle.mig_numbers.proofs.Common.{DiskId, InputLists, IsDrain, IsHanded, List, length, length-map, length-map-range_with_len, made_item, numbers}
use Rattle.mig_numbers.proofs.Common.{subst, sym, ◌∙◌}
use Rattle.mig_numbers.proofs.draining.drain_into.Goals as goal

pub returns-in-Ok-drain-clause-drained : goal.returns-in-Ok-drain-clause-drained
returns-in-Ok-drain-clause-drained c =
    let made = c.in-Ok-drain.drained in
    let h = c.in-Ok-drain.ensures in
    let drains : IsDrain c.in-Ok.input c.args.disk made.next made.rounds made.shown =
    record { empties = h.empties; planned = h.planned; needed = h.needed; fewest = h.fewest; dealt = h.dealt; shows = h.shown } in
    let names = length-map-range_with_len made_item 0 (length c.args.items.now) in
    let here = subst (λ (i : InputLists). IsDrain i c.args.disk made.next made.rounds made.shown) c.in-Ok.ensures.input drains in
    let handed =
    subst (λ (ids : List DiskId). IsHanded (numbers ids) c.args.next.now c.write_ids.new.set c.write_ids.result) c.ids.ensures c.write_ids.ensures in
    record {
      there = c.in-Ok.ensures.there;
      targets = made.next;
      rounds = made.rounds;
      shown = made.shown;
      drains = here;
      in_next = record { held = handed.held; count_is = sym names ∙ sym here.empties.len ∙ sym (length-map made.next (λ disk. disk.0)) };
      drained_is = c.shown_in.ensures;
    }

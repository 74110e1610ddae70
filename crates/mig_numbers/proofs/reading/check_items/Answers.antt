use Rattle.mig_numbers.proofs.Common.{false, get_or, get_or_default, is_err, no_item, on-ok, rules, ◌≡◌}
use Rattle.mig_numbers.proofs.Inputs.{sound_next, spots_next}
use Rattle.mig_numbers.proofs.reading.check_items.Goals as goal

pub loop-k-preserved : goal.loop-k-preserved
loop-k-preserved c =
    let items = c.args.items.now in
    let k = c.loop-k.k in
    let lt = c.loop-k-test.true in
    let item = get_or items k no_item in
    let here = get_or_default items k no_item item lt in
    let good : is_err c.push.result ≡ false = search rules in
    let pushed = on-ok c.push.result good c.push.ensures.ok in
    record {
      taken = rw (pushed, c.spot_of.ensures) (spots_next items k c.loop-k.taken item c.loop-k.invariant.taken lt here);
      sound = sound_next c.args.disks.now items k c.loop-k.taken item c.loop-k.invariant.taken lt here c.loop-k.invariant.sound c.in_default-item_fault.ensures;
    }

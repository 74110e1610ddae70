use Rattle.mig_drain.proofs.Common.{all_take, arith, ◌+◌, ◌-◌, ◌/◌, ◌<◌}
use Rattle.mig_drain.proofs.ReceiverLaws.{enough_rounds, too_few}
use Rattle.mig_drain.proofs.receivers.least_rounds.Goals as goal

pub loop-from-init : goal.loop-from-init
loop-from-init c = record {
  low = omega arith;
  order = c.requires.low;
  most = omega arith;
  enough = enough_rounds c.args.items c.args.receivers.now c.requires.small c.requires.room;
  less = λ q l h. l;
}

pub loop-from-preserved : goal.loop-from-preserved
loop-from-preserved c =
    let i = c.loop-from.invariant in
    let middle = c.loop-from.from + (c.loop-from.upto - c.loop-from.from) / 2 in
    let few : all_take middle c.args.receivers.now < c.args.items = omega (arith, c.if-total_takes-items.false, c.total_takes.ensures) in
    record {
      low = omega (arith, i.low);
      order = omega (arith, c.loop-from-test.true);
      most = i.most;
      enough = i.enough;
      less = λ q l h. omega (arith, too_few c.args.receivers.now middle c.args.items q few h);
    }

use Rattle.mig_drill.proofs.Common.{arith}
use Rattle.mig_drill.proofs.LineTexts.{one_at_most}
use Rattle.mig_drill.proofs.drills.try_stops.Goals as goal

pub loop-n-preserved : goal.loop-n-preserved
loop-n-preserved c = record {
  runs = omega (arith, c.loop-n.invariant.runs, c.in_ok-store-2.ensures.counted);
  told = c.in_ok-store-2.ensures.told;
  most = omega (arith, c.loop-n.invariant.most, one_at_most c.sets_mark.result c.from.result c.from.ensures);
}

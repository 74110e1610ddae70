use Rattle.mig_plan.proofs.Common.{arith}
use Rattle.mig_plan.proofs.LoweredLimits.{lowerable_more, lowered_more}
use Rattle.mig_plan.proofs.lowered.lowered_quotient.Goals as goal

pub loop-disk-preserved : goal.loop-disk-preserved
loop-disk-preserved c =
    let graph = c.args.graph.now in
    let disk = c.loop-disk.disk in
    let e = c.in_ok-lowered_rounds.ensures in
    record {
      most = omega (arith, c.max-most.ensures, e.rounds, c.loop-disk.invariant.most, lowered_more graph disk);
      lowerable = lowerable_more graph disk c.loop-disk.invariant.lowerable e.some;
    }

use Rattle.mig_check.proofs.Common.{arith, common_steps, has_spot}
use Rattle.mig_check.proofs.TakenSpots.{list_taken}
use Rattle.mig_check.proofs.taken.take_all.Goals as goal

pub loop-spot-preserved : goal.loop-spot-preserved
loop-spot-preserved c = λ t. grind (arith, common_steps, c.loop-spot.invariant t, c.in_ok-_free.ensures.after t)

pub returns : goal.returns
returns c = list_taken (has_spot c.loop-spot.taken) c.args.spots.now c.loop-spot.spot-index (omega arith) c.loop-spot.invariant

use Rattle.mig_tight.proofs.Common.{Err, Ok, OnOk, Result, arith, on_ok_weaker}
use Rattle.mig_tight.proofs.StateSteps.{IsSound-parked, Preserves-parked, moved_now, Preserves-trans, all_unawaited}
use Rattle.mig_tight.proofs.planner.Planner.park.Goals as goal

both : {T E P Q R : Type 0} (r : Result T E) → (P → Q → R) → OnOk r P → OnOk r Q → OnOk r R
both (Ok x) f p q = f p q
both (Err e) f p q = tt

pub settle-requires-clause-sound : goal.settle-requires-clause-sound
settle-requires-clause-sound c = grind (arith, IsSound-parked)

pub returns-clause-preserves : goal.returns-clause-preserves
returns-clause-preserves c = grind (arith, Preserves-parked, on_ok_weaker, Preserves-trans)

pub returns-clause-moved : goal.returns-clause-moved
returns-clause-moved c = grind (arith, moved_now, on_ok_weaker)

pub returns-clause-unawaited : goal.returns-clause-unawaited
returns-clause-unawaited c = grind (arith, Preserves-parked, both, all_unawaited, Preserves-trans)

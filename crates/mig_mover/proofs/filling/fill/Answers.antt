use Rattle.mig_mover.proofs.Common.{IsListedCell, on_ok_weaker}
use Rattle.mig_mover.proofs.Looked.{ground_back}
use Rattle.mig_mover.proofs.FillSteps.{fault_more, fillable_more, fills_landed, fills_more}
use Rattle.mig_mover.proofs.Settling.{if_err, tells_more}
use Rattle.mig_mover.proofs.filling.fill.Goals as goal

pub returns-in_err-settle_and_look-clause-change : goal.returns-in_err-settle_and_look-clause-change
returns-in_err-settle_and_look-clause-change g c = fills_landed c.args.input.now c.settle_and_look.ensures.lands

pub returns-in-Running-clause-change : goal.returns-in-Running-clause-change
returns-in-Running-clause-change g c = fills_landed c.args.input.now c.settle_and_look.ensures.lands

pub returns-in-Idle-clause-change : goal.returns-in-Idle-clause-change
returns-in-Idle-clause-change g c = fills_more c.args.input.now c.in_ok-settle_and_look.ensures.settles c.fill_idle.ensures.change

pub returns-in-Idle-clause-fillable : goal.returns-in-Idle-clause-fillable
returns-in-Idle-clause-fillable g c = on_ok_weaker c.fill_idle.result (fillable_more c.args.input.now c.in_ok-settle_and_look.ensures.settles)
    c.fill_idle.ensures.fillable

pub returns-in-Idle-clause-fault : goal.returns-in-Idle-clause-fault
returns-in-Idle-clause-fault g c =
    let settles = c.in_ok-settle_and_look.ensures.settles in
    if_err c.fill_idle.result (fault_more c.args.input.now (g.S.Store.state c.fill_idle.new.store) settles c.settle_and_look.ensures.cause.later
    (ground_back (tells_more _ _ settles (IsListedCell c.args.input.now)))) c.fill_idle.ensures.fault

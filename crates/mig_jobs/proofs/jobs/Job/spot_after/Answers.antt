use Rattle.mig_jobs.proofs.Common.{IsInput, Task, ap, no_spot, subst, ◌∙◌}
use Rattle.mig_jobs.proofs.StopLaws.{at_some, at_none}
use Rattle.mig_jobs.proofs.jobs.Job.spot_after.Goals as goal

pub returns-in-Some : goal.returns-in-Some
returns-in-Some c =
    let task = c.args.self.now in
    at_some task.input task.plan c.args.rounds c.args.item.0 c.requires.rounds c.item_stops.result.now c.item_stops.ensures c.spot_until.result c.spot_until.ensures c.in-Some.spot c.in-Some.is

pub returns-in-None : goal.returns-in-None
returns-in-None c =
    let task = c.args.self.now in
    at_none task.input task.plan c.args.rounds c.args.item.0 c.requires.rounds c.item_stops.result.now c.item_stops.ensures c.spot_until.result c.spot_until.ensures
    (subst (λ (t : Task). IsInput t.input) c.self.view_is c.now.ensures.valid) c.requires.item c.now.result.now no_spot (c.now.ensures.value ∙ ap (λ (t : Task). t.input.spots) c.self.view_is) c.in-None.is

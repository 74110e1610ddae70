use Rattle.mig_jobs.proofs.Common.{Global, Task, Vec, Waypoint, ap, arith, length, subst, sym, waypoints_in, ◌<◌, ◌∙◌, ◌≡◌}
use Rattle.mig_jobs.proofs.jobs.Job.item_stops.Goals as goal

pub returns : goal.returns
returns c =
    let j = c.self.inside in
    let (task, count, targets, vacancies, stops) = c.self.invariant in
    let within : c.args.item < length j.input.items = subst (λ (t : Task). c.args.item < length t.input.items) (sym c.self.view_is) c.requires in
    subst (λ (t : Task). c.as_slice.result.now ≡ waypoints_in t.plan (length t.plan) c.args.item) c.self.view_is
    (c.as_slice.ensures.value ∙ ap (λ (v : Vec Waypoint Global). v.items) c.index.ensures ∙ stops.row c.args.item c.index.result.now (omega (arith, within, stops.each)))

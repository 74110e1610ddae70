-- What files stand for, told plainly, is what the steps find that load and read them.
use Rattle.mig_top.proofs.Common.{AreScripted, BeginWith, Files, FindsTask, HoldsFirst, InputLists, IsTaskOf, LayoutBodies, List, Names, PlanBodies, Reader, ScriptText, Scripted, StandsBy, ThreeFiles}
use Rattle.mig_top.proofs.Common.{Task, TaskNames, ap, input_by, loads_input, refl, roomy, scripted_in, subst, sym, ℕ, ◌∙◌, ◌≡◌}

pub there_loads : (files : Files) (names : Names) (bodies : ThreeFiles) → BeginWith files names bodies → (loads_input names files).Passes bodies
there_loads files names bodies h =
    (record { disks = bodies.disks; now = bodies.now }, (bodies.disks, h.disks, (bodies.now, h.now, refl)), (bodies.next, h.next, refl))

pub loads_there : (files : Files) (names : Names) (bodies : ThreeFiles) → (loads_input names files).Passes bodies → BeginWith files names bodies
loads_there files names bodies (layout, (d, disks, (n, now, is)), (x, next, at)) =
    let of : LayoutBodies → ThreeFiles = λ l. record { disks = l.disks; now = l.now; next = x } in
    subst (BeginWith files names) (sym (at ∙ ap of is)) (record { disks = disks; now = now; next = next })

pub input_found : (reader : Reader) (files : Files) (names : Names) (input : InputLists) → StandsBy reader files names input → (input_by reader names files).Passes input
input_found reader files names input h = (h.bodies, there_loads files names h.bodies h.there, h.read)

pub found_input : (reader : Reader) (files : Files) (names : Names) (input : InputLists) → (input_by reader names files).Passes input → StandsBy reader files names input
found_input reader files names input (bodies, there, read) = record { bodies = bodies; there = loads_there files names bodies there; read = read }

pub task_found : (files : Files) (names : TaskNames) (task : Task) → IsTaskOf files names task → FindsTask files names task
task_found files names task h =
    let b = h.bodies in
    let of : List ℕ → Task = λ digest. record { input = task.input; plan = task.plan; digest = digest } in
    (b, (b.input, there_loads files names.files b.input h.there, (b.plan, h.plan, refl)), (task.input, h.input, (task.plan, (h.spelled, h.short), (tt, h.ran, ap of h.digest))))

pub scripted_found : (files : Files) (names : Names) (script : List ℕ) (read : Scripted) → AreScripted files names script read → (scripted_in names script files).Passes read
scripted_found files names script read h =
    let (bodies, there, (input, accepted, (rounds, spelled, (u, ran, is)))) = task_found files (roomy names) read.task h.task in
    let same : read.task.input ≡ input = ap (λ (t : Task). t.input) is in (
      bodies,
      there,
      (
        h.bytes,
        h.there,
        (
          input,
          accepted,
          (rounds, spelled, (read.orders, subst (λ (i : InputLists). ScriptText i read.orders h.bytes) same h.spelled, (tt, ran, ap (λ (t : Task). record { task = t; orders = read.orders }) is))),
        ),
      ),
    )

pub found_task : (files : Files) (names : TaskNames) (task : Task) → FindsTask files names task → IsTaskOf files names task
found_task files names task (bodies, (i, there, (p, plan, is)), (input, read, (rounds, spelled, (u, ran, is_task)))) =
    subst (IsTaskOf files names) (sym is_task) (record {
      bodies = bodies;
      there = subst (λ (b : PlanBodies). BeginWith files names.files b.input) (sym is) (loads_there files names.files i there);
      plan = subst (λ (b : PlanBodies). HoldsFirst files names.files.plan b.plan) (sym is) plan;
      input = read;
      spelled = spelled.0;
      short = spelled.1;
      ran = ran;
      digest = refl;
    })

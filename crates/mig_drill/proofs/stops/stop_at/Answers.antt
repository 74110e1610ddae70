use Rattle.mig_drill.proofs.Common.{LeavesSound, List, StoreCall, TellsJob, ap, arith, count_most, count_of, flights, mem_is_state, same_none, state_at, state_of, subst, sym, ℕ, ◌∙◌}
use Rattle.mig_drill.proofs.StopSteps.{ended, stop_keeps, stop_reaches, stop_told, stop_resumed}
use Rattle.mig_drill.proofs.stops.stop_at.Goals as goal

pub returns-clause-keeps : goal.returns-clause-keeps
returns-clause-keeps c contents before =
    let first = c.fuse.new.self in
    let started = c.start_lanes.new.store in
    let left = c.crash-left.result in
    let resumed = c.resume_lanes.new.store in
    stop_keeps c.args.job.now contents (state_of first) (state_of started) (state_of left) (state_of resumed) (mem_is_state first) (mem_is_state started) (mem_is_state left) (mem_is_state resumed)
    (same_none _ _) (same_none _ _) c.crash-left.ensures.left c.crash-left.ensures.settled
    (ap (λ (calls : List StoreCall). flights (state_at left.log.first calls left.trouble.faults)) c.crash-left.ensures.calls)
    c.start_lanes.ensures.starts.carries.keeps c.resume_lanes.ensures.resumes.carries.keeps (subst (LeavesSound c.args.job.now contents) (sym (ap state_of c.fuse.ensures)) before)

pub returns-clause-reached : goal.returns-clause-reached
returns-clause-reached c done contents before =
    let first = c.fuse.new.self in
    let started = c.start_lanes.new.store in
    let left = c.crash-left.result in
    let resumed = c.resume_lanes.new.store in
    let finished = ended c.resume_lanes.result _ c.resume_lanes.ensures.resumes.finishes (sym c.is_ok-reached.ensures.value ∙ done) in
    stop_reaches c.args.job.now contents (state_of first) (state_of started) (state_of left) (state_of resumed) (mem_is_state first) (mem_is_state started) (mem_is_state left) (mem_is_state resumed)
    (same_none _ _) (same_none _ _) c.crash-left.ensures.left c.crash-left.ensures.settled
    (ap (λ (calls : List StoreCall). flights (state_at left.log.first calls left.trouble.faults)) c.crash-left.ensures.calls)
    c.start_lanes.ensures.starts.carries.keeps c.resume_lanes.ensures.resumes.carries.keeps (subst (LeavesSound c.args.job.now contents) (sym (ap state_of c.fuse.ensures)) before)
    finished.0 finished.1

pub returns-clause-marks : goal.returns-clause-marks
returns-clause-marks c = omega (arith, c.count_rounds-marks.ensures, c.rounds.ensures.count, count_most c.rounds.result (state_of c.crash-left.result).reads)

pub returns-clause-told : goal.returns-clause-told
returns-clause-told c tells =
    let first = c.fuse.new.self in
    let started = c.start_lanes.new.store in
    let left = c.crash-left.result in
    stop_told c.args.job.now (state_of first) (state_of started) (state_of left) (state_of c.resume_lanes.new.store) (mem_is_state started) c.crash-left.ensures.left c.start_lanes.ensures.starts.carries.keeps c.resume_lanes.ensures.resumes.carries.keeps
    (subst (TellsJob c.args.job.now) (sym (ap state_of c.fuse.ensures)) tells)

pub returns-clause-resumed : goal.returns-clause-resumed
returns-clause-resumed c done tells =
    let first = c.fuse.new.self in
    let started = c.start_lanes.new.store in
    let left = c.crash-left.result in
    stop_resumed c.args.job.now (state_of first) (state_of started) (state_of left) (state_of c.resume_lanes.new.store) (mem_is_state started) c.crash-left.ensures.left c.start_lanes.ensures.starts.carries.keeps
    (ap (λ (calls : List StoreCall). (state_at left.log.first calls left.trouble.faults).events) c.crash-left.ensures.calls) c.resume_lanes.result c.resume_lanes.ensures.flies
    (sym c.is_ok-reached.ensures.value ∙ done) c.count_rounds-marks.result (c.count_rounds-marks.ensures ∙ ap (λ (n : ℕ). count_of n (state_of left).reads) c.rounds.ensures.count)
    (subst (TellsJob c.args.job.now) (sym (ap state_of c.fuse.ensures)) tells)

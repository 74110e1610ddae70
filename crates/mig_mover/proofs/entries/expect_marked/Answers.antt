use Rattle.mig_mover.proofs.Common.{look_quiet}
use Rattle.mig_mover.proofs.Looked.{kept_marked}
use Rattle.mig_mover.proofs.SeenSlots.{ground_err}
use Rattle.mig_mover.proofs.entries.expect_marked.Goals as goal

pub returns-in_err-expect_all-clause-cause : goal.returns-in_err-expect_all-clause-cause
returns-in_err-expect_all-clause-cause g c =
    let looked = look_quiet _ _ c.requires.none c.marked.ensures.change in
    ground_err _ c.marked.ensures.cause.later c.expect_all.ensures.cause.later
    (λ refuses not kept. not (kept_marked c.args.job.now _ _ c.in_ok-k.k _ c.rounds.ensures.count looked c.in_ok-k.ensures.count kept))
    c.in_err-expect_all.ensures.cause.failed

pub returns-clause-seen : goal.returns-clause-seen
returns-clause-seen g c = λ refuses kept.
    let looked = look_quiet _ _ c.requires.none c.marked.ensures.change in
    c.in_ok-expect_all.ensures.seen refuses (kept_marked c.args.job.now _ _ c.in_ok-k.k _ c.rounds.ensures.count looked c.in_ok-k.ensures.count kept)

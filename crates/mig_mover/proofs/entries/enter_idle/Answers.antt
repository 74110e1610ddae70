use Rattle.mig_mover.proofs.Common.{IsJournal, arith}
use Rattle.mig_mover.proofs.SeenSlots.{journal_beside, seen_beside}
use Rattle.mig_mover.proofs.EnterLaws.{enters_armed, keeps_armed, on_quiet}
use Rattle.mig_mover.proofs.entries.enter_idle.Goals as goal

pub returns-in_err-check_ready-clause-keeps : goal.returns-in_err-check_ready-clause-keeps
returns-in_err-check_ready-clause-keeps g c =
    on_quiet c.args.job.now _ _ (g.met.S.Store.is_state c.args.store.now) c.check_ready.ensures.change c.check_ready.ensures.later

pub returns-in_err-arm-clause-keeps : goal.returns-in_err-arm-clause-keeps
returns-in_err-arm-clause-keeps g c =
    let arming = rw (c.rounds.ensures.count, c.digest.ensures) at c.arm.ensures.any_moment in
    keeps_armed c.args.job.now c.rounds.ensures.valid _ _ _ (g.met.S.Store.is_state c.args.store.now) c.requires.settled c.requires.idle
    c.check_ready.ensures.change
    c.in_ok-check_ready.ensures.ready arming (rw c.rounds.ensures.count at c.arm.ensures.change)
    (omega (arith, c.check_ready.ensures.later, c.arm.ensures.cause.later))

pub returns-clause-keeps : goal.returns-clause-keeps
returns-clause-keeps g c =
    let arming = rw (c.rounds.ensures.count, c.digest.ensures) at c.arm.ensures.any_moment in
    keeps_armed c.args.job.now c.rounds.ensures.valid _ _ _ (g.met.S.Store.is_state c.args.store.now) c.requires.settled c.requires.idle
    c.check_ready.ensures.change
    c.in_ok-check_ready.ensures.ready arming (rw c.rounds.ensures.count at c.arm.ensures.change)
    (omega (arith, c.check_ready.ensures.later, c.arm.ensures.cause.later))

pub returns-clause-enters : goal.returns-clause-enters
returns-clause-enters g c =
    let arming = rw (c.rounds.ensures.count, c.digest.ensures) at c.arm.ensures.any_moment in
    let fresh = rw (c.rounds.ensures.count, c.digest.ensures) at c.in_ok-arm.ensures.fresh in
    enters_armed c.args.job.now c.rounds.ensures.valid _ _ _ (g.met.S.Store.is_state c.args.store.now) c.requires.settled c.requires.idle
    c.check_ready.ensures.change
    c.in_ok-check_ready.ensures.ready arming (rw c.rounds.ensures.count at c.arm.ensures.change) c.requires.none c.in_ok-arm.ensures.armed fresh
    c.in_ok-arm.ensures.settled

pub returns-clause-seen : goal.returns-clause-seen
returns-clause-seen g c = λ refuses tells. seen_beside c.args.job.now c.rounds.ensures.valid 0 (omega arith) _ _
    (c.in_ok-check_ready.ensures.seen refuses tells)
    (IsJournal c.rounds.result) journal_beside _ c.arm.ensures.seen _ c.arm.ensures.change.told

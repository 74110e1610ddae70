use Rattle.mig_mover.proofs.Common.{All, CanTake, Image, IsJobCell, IsKept, IsShifted, IsThere, Tells, arith, length, quiet_same, shifts_of}
use Rattle.mig_mover.proofs.Common.{subst, sym, then_quiet, ℕ, ◌<◌}
use Rattle.mig_mover.proofs.Looked.{store_fault}
use Rattle.mig_mover.proofs.ReadyKept.{ready_kept}
use Rattle.mig_mover.proofs.SeenSlots.{rose_after}
use Rattle.mig_mover.proofs.TargetLaws.{none_of}
use Rattle.mig_mover.proofs.ready.check_ready.Given as given
use Rattle.mig_mover.proofs.ready.check_ready.Goals as goal
use Rattle.mig_mover.proofs.ready.check_ready.Goals.{After-expect_all}

pub returns-in-Some-2-clause-fault : goal.returns-in-Some-2-clause-fault
returns-in-Some-2-clause-fault g c =
    let job = c.args.job.now in
    let same = quiet_same _ _ c.find_lost.ensures.change in
    let there : (item : ℕ) → item < length job.input.items → IsShifted job.plan item
    → IsThere job.input (g.S.Store.state c.args.store.now).reads item =
    none_of c.in_ok-item.field-0 c.in_default.not-Some c.in_ok-item.ensures.there in
    let used = rw (c.in-Some-2.is, ← same) at c.in_ok-spot.ensures.used in
    (then_quiet _ _ _ _ c.find_lost.ensures.change c.find_used.ensures.change, (c.requires.idle, there, used))

-- the cells show no ground to refuse
kept : (g : given.Over) (c : goal.After-expect_all g) → Tells (IsJobCell c.args.job.now.input c.args.job.now.plan)
    (g.S.Store.state c.args.store.now).reads
    → IsKept c.args.job.now (g.S.Store.state c.find_used.new.store).reads 0
kept g c tells =
    let job = c.args.job.now in
    subst (λ (image : Image). IsKept job image 0) (quiet_same _ _ (then_quiet _ _ _ _ c.find_lost.ensures.change c.find_used.ensures.change))
    (ready_kept job c.keeps_rules.ensures (g.S.Store.state c.args.store.now).reads tells (record {
      idle = c.requires.idle;
      there = none_of c.in_ok-item.field-0 c.in_default.not-Some c.in_ok-item.ensures.there;
      unused = subst (λ (image : Image). All (CanTake job.input image) (shifts_of job.plan)) (sym (quiet_same _ _ c.find_lost.ensures.change))
          (none_of c.in_ok-spot.field-0 c.in_default-2.not-Some c.in_ok-spot.ensures.free);
    }))

pub returns-clause-seen : goal.returns-clause-seen
returns-clause-seen g c = λ refuses tells. c.in_ok-expect_all.ensures.seen refuses (kept g (goal.at.returns-clause-seen g c).After-expect_all tells)

pub returns-in_err-expect_all-clause-fault : goal.returns-in_err-expect_all-clause-fault
returns-in_err-expect_all-clause-fault g c = store_fault _ c.from_residual-in_err-expect_all.result c.from_residual-in_err-expect_all.ensures.1
    (rose_after (omega (arith, c.find_lost.ensures.cause.later, c.find_used.ensures.cause.later))
    (λ not tells. not (kept g (goal.at.returns-in_err-expect_all-clause-fault g c).After-expect_all tells)) c.in_err-expect_all.ensures.cause.failed)

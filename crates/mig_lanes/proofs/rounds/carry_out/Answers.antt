use Rattle.mig_journal.proofs.Steps.{err_any}
use Rattle.mig_mover.specs.Holdings.{IsSeen}
use Rattle.mig_mover.proofs.SeenSlots.{ground_with, rose_after}
use Rattle.mig_lanes.proofs.EventSteps.{adds_kept}
use Rattle.mig_lanes.proofs.Common.{AreRoundEvents, IsSound, [], arith, copies_of, leaves_then, on_ok_is, on_ok_weaker, ◌++◌, ◌+◌, subst, ◌≡◌}
use Rattle.mig_lanes.proofs.Carrying.{exit_copy, has_copied, copy_work, closed_work}
use Rattle.mig_lanes.proofs.rounds.carry_out.Goals as goal

pub returns-in_err-run_copies-clause-any_moment : goal.returns-in_err-run_copies-clause-any_moment
returns-in_err-run_copies-clause-any_moment g c = λ asked contents done.
    exit_copy c.args.job.now c.keeps_rules.ensures c.args.k c.requires.more asked contents (g.S.Store.state c.args.store.now) done (c.args.k + 1) (omega arith) c.run_copies.ensures.change.0 (g.S.Store.state c.run_copies.new.store) c.run_copies.ensures.change.1

pub returns-in_err-run_copies-clause-change : goal.returns-in_err-run_copies-clause-change
returns-in_err-run_copies-clause-change g c = (
  c.run_copies.ensures.change.0,
  copy_work c.args.job.now (c.args.k + 1) (omega arith) (omega (arith, c.requires.more)) (g.S.Store.state c.args.store.now) (g.S.Store.state c.run_copies.new.store) c.run_copies.ensures.change.0 c.run_copies.ensures.change.1,
)

pub returns-clause-any_moment : goal.returns-clause-any_moment
returns-clause-any_moment g c = λ asked contents done.
    leaves_then (IsSound asked c.args.job.now.input c.args.job.now.plan c.args.job.now.digest contents) (g.S.Store.state c.args.store.now) (g.S.Store.state c.run_copies.new.store) (g.S.Store.state c.close_round.new.store)
    (exit_copy c.args.job.now c.keeps_rules.ensures c.args.k c.requires.more asked contents (g.S.Store.state c.args.store.now) done (c.args.k + 1) (omega arith) c.run_copies.ensures.change.0 (g.S.Store.state c.run_copies.new.store) c.run_copies.ensures.change.1)
    (c.close_round.ensures.any_moment asked contents
    (has_copied c.args.job.now c.keeps_rules.ensures c.args.k c.requires.more asked contents (g.S.Store.state c.args.store.now) done (c.args.k + 1) (omega arith) c.run_copies.ensures.change.0 (g.S.Store.state c.run_copies.new.store) c.run_copies.ensures.change.1 c.in_ok-run_copies.ensures.settled c.in_ok-run_copies.ensures.copied))

pub returns-clause-done : goal.returns-clause-done
returns-clause-done g c = on_ok_weaker c.close_round.result (λ closed asked contents done. closed asked contents
    (has_copied c.args.job.now c.keeps_rules.ensures c.args.k c.requires.more asked contents (g.S.Store.state c.args.store.now) done (c.args.k + 1) (omega arith) c.run_copies.ensures.change.0 (g.S.Store.state c.run_copies.new.store) c.run_copies.ensures.change.1 c.in_ok-run_copies.ensures.settled c.in_ok-run_copies.ensures.copied))
    c.close_round.ensures.done

pub returns-clause-round : goal.returns-clause-round
returns-clause-round g c = on_ok_is c.close_round.result (adds_kept (AreRoundEvents (copies_of c.args.job.now (c.args.k + 1))) (g.S.Store.state c.args.store.now) (g.S.Store.state c.run_copies.new.store) (g.S.Store.state c.close_round.new.store)
    (λ told. let round = c.in_ok-run_copies.ensures.round told in (round.0, round.1, round.2.events)) c.close_round.ensures.change.events)

pub returns-clause-change : goal.returns-clause-change
returns-clause-change g c = (
  c.run_copies.ensures.change.0 ++ [],
  closed_work c.args.job.now (c.args.k + 1) (omega arith) (omega (arith, c.requires.more)) (g.S.Store.state c.args.store.now) (g.S.Store.state c.run_copies.new.store) c.run_copies.ensures.change.0 c.run_copies.ensures.change.1 (g.S.Store.state c.close_round.new.store) c.close_round.ensures.change,
)

pub overflow_add-k : goal.overflow_add-k
overflow_add-k g c = omega (arith, c.requires.more, c.keeps_rules.ensures.few_rounds)

pub returns-in_err-run_copies-clause-cause : goal.returns-in_err-run_copies-clause-cause
returns-in_err-run_copies-clause-cause g c = record {
  later = c.run_copies.ensures.cause.later;
  failed = err_any _ (rose_after (omega arith) (λ why seeing. why.2 (subst (IsSeen c.args.job.now (g.S.Store.seen c.args.store.now) (g.S.Store.state c.args.store.now).reads) (let same : c.args.k ≡ why.0 = omega (arith, why.1) in same) seeing))
      c.in_err-run_copies.ensures.cause.failed);
}

pub returns-clause-cause : goal.returns-clause-cause
returns-clause-cause g c =
    ground_with c.close_round.result c.run_copies.ensures.cause.later (λ refuses not seeing. not (c.in_ok-run_copies.ensures.seen c.args.k (omega arith) refuses seeing)) c.close_round.ensures.cause

pub returns-clause-seen : goal.returns-clause-seen
returns-clause-seen g c = on_ok_weaker c.close_round.result (λ go refuses seeing. go (c.in_ok-run_copies.ensures.seen c.args.k (omega arith) refuses seeing)) c.close_round.ensures.seen

use Rattle.mig_journal.proofs.Steps.{failed_ground}
use Rattle.mig_mover.specs.Holdings.{IsSeen}
use Rattle.mig_mover.proofs.SeenSlots.{ground_after, seen_beside}
use Rattle.mig_lanes.proofs.Common.{arith, on_ok_weaker, ◌+◌, Mark, ap, is_slot, ◌≡◌}
use Rattle.mig_lanes.proofs.Closing.{exit_mark, exit_erase, done_next, set_work, erased_work}
use Rattle.mig_lanes.proofs.rounds.close_round.Given as given
use Rattle.mig_lanes.proofs.rounds.close_round.Goals.{After-erase_sources}
use Rattle.mig_lanes.proofs.rounds.close_round.Goals as goal

pub returns-in_err-mark-clause-any_moment : goal.returns-in_err-mark-clause-any_moment
returns-in_err-mark-clause-any_moment g c = λ asked contents copied. exit_mark c.args.job.now c.keeps_rules.ensures c.args.k c.requires.more asked contents (g.S.Store.state c.args.store.now) copied (c.args.k + 1) (omega arith) (g.S.Store.state c.mark.new.store) c.mark.ensures.change

pub returns-in_err-mark-clause-change : goal.returns-in_err-mark-clause-change
returns-in_err-mark-clause-change g c = set_work c.args.job.now (c.args.k + 1) (omega arith) (omega (arith, c.requires.more)) (g.S.Store.state c.args.store.now) (g.S.Store.state c.mark.new.store) c.mark.ensures.change

pub returns-clause-any_moment : goal.returns-clause-any_moment
returns-clause-any_moment g c = λ asked contents copied. exit_erase c.args.job.now c.keeps_rules.ensures c.args.k c.requires.more asked contents (g.S.Store.state c.args.store.now) copied (c.args.k + 1) (omega arith) (g.S.Store.state c.mark.new.store) c.mark.ensures.change
    c.in_ok-mark.ensures.marked c.in_ok-mark.ensures.settled (g.S.Store.state c.erase_sources.new.store) c.erase_sources.ensures.change

pub returns-clause-done : goal.returns-clause-done
returns-clause-done g c = on_ok_weaker c.erase_sources.result (λ zeros_there asked contents copied. done_next c.args.job.now c.keeps_rules.ensures c.args.k c.requires.more asked contents (g.S.Store.state c.args.store.now) copied (c.args.k + 1) (omega arith) (g.S.Store.state c.mark.new.store) c.mark.ensures.change
    c.in_ok-mark.ensures.marked c.in_ok-mark.ensures.settled (g.S.Store.state c.erase_sources.new.store) c.erase_sources.ensures.change zeros_there) c.erase_sources.ensures.erased

pub returns-clause-change : goal.returns-clause-change
returns-clause-change g c = erased_work c.args.job.now (c.args.k + 1) (omega arith) (omega (arith, c.requires.more)) (g.S.Store.state c.args.store.now) (g.S.Store.state c.mark.new.store) c.mark.ensures.change (g.S.Store.state c.erase_sources.new.store) c.erase_sources.ensures.change

pub overflow_add-k : goal.overflow_add-k
overflow_add-k g c = omega (arith, c.requires.more, c.keeps_rules.ensures.few_rounds)

pub overflow_add-k-2 : goal.overflow_add-k-2
overflow_add-k-2 g c = omega (arith, c.requires.more, c.keeps_rules.ensures.few_rounds)

-- the mark changes nothing that slots show
marked : (g : given.Over) (c : After-erase_sources g) → IsSeen c.args.job.now (g.S.Store.seen c.args.store.now) (g.S.Store.state c.args.store.now).reads (c.args.k + 1)
    → IsSeen c.args.job.now (g.S.Store.seen c.mark.new.store) (g.S.Store.state c.mark.new.store).reads (c.args.k + 1)
marked g c seeing =
    seen_beside c.args.job.now c.keeps_rules.ensures (c.args.k + 1) (omega (arith, c.requires.more)) (g.S.Store.seen c.args.store.now) (g.S.Store.state c.args.store.now).reads seeing (λ cell. cell ≡ Mark (c.args.k + 1))
    (λ cell same. ap is_slot same) (g.S.Store.seen c.mark.new.store) c.mark.ensures.seen (g.S.Store.state c.mark.new.store).reads c.mark.ensures.change.told

pub returns-in_err-mark-clause-cause : goal.returns-in_err-mark-clause-cause
returns-in_err-mark-clause-cause g c = failed_ground _ c.mark.ensures.cause.later c.in_err-mark.ensures.cause.failed

pub returns-clause-cause : goal.returns-clause-cause
returns-clause-cause g c = ground_after c.erase_sources.result c.mark.ensures.cause.later (λ not seeing. not (marked g (goal.at.returns-clause-cause g c).After-erase_sources seeing)) c.erase_sources.ensures.cause

pub returns-clause-seen : goal.returns-clause-seen
returns-clause-seen g c = on_ok_weaker c.erase_sources.result (λ go seeing. go (marked g (goal.at.returns-clause-seen g c).After-erase_sources seeing)) c.erase_sources.ensures.seen

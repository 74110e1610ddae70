use Rattle.mig_mover.proofs.Common.{NoCell, [], arith, quiet_leaves, ◌≤◌}
use Rattle.mig_mover.proofs.SeenSlots.{ground_err}
use Rattle.mig_mover.proofs.Settling.{after_quiet}
use Rattle.mig_mover.proofs.EnterLaws.{armed_erased, enters_erased, keeps_erased, on_quiet}
use Rattle.mig_mover.proofs.entries.enter_running.Goals as goal

pub returns-in_err-k-clause-keeps : goal.returns-in_err-k-clause-keeps
returns-in_err-k-clause-keeps g c =
    on_quiet c.args.job.now _ _ (g.met.S.Store.is_state c.args.store.now) c.expect_marked.ensures.change c.expect_marked.ensures.cause.later

pub returns-in_err-k-clause-armed : goal.returns-in_err-k-clause-armed
returns-in_err-k-clause-armed g c = λ armed. quiet_leaves _ NoCell [] _ _ (g.met.S.Store.is_state c.args.store.now) c.expect_marked.ensures.change

pub returns-in_err-erase_last-clause-keeps : goal.returns-in_err-erase_last-clause-keeps
returns-in_err-erase_last-clause-keeps g c =
    keeps_erased c.args.job.now c.expect_marked.ensures.valid _ _ c.requires.settled c.requires.running c.in_ok-k.k c.in_ok-k.ensures.most
    c.in_ok-k.ensures.count
    (after_quiet c.expect_marked.ensures.change c.erase_last.ensures.change) (omega (
      arith,
      c.expect_marked.ensures.cause.later,
      c.erase_last.ensures.cause.later,
    ))

pub returns-in_err-erase_last-clause-armed : goal.returns-in_err-erase_last-clause-armed
returns-in_err-erase_last-clause-armed g c =
    armed_erased c.args.job.now c.expect_marked.ensures.valid _ _ c.requires.settled c.requires.running c.in_ok-k.k c.in_ok-k.ensures.most
    c.in_ok-k.ensures.count
    (after_quiet c.expect_marked.ensures.change c.erase_last.ensures.change)

pub returns-in_err-erase_last-clause-cause : goal.returns-in_err-erase_last-clause-cause
returns-in_err-erase_last-clause-cause g c = ground_err _ c.expect_marked.ensures.cause.later c.erase_last.ensures.cause.later
    (λ refuses not kept. not (c.in_ok-k.ensures.seen refuses kept)) c.in_err-erase_last.ensures.cause.failed

pub returns : goal.returns
returns g c =
    let change = after_quiet c.expect_marked.ensures.change c.erase_last.ensures.change in
    let later : (g.S.Store.state c.args.store.now).faults ≤ (g.S.Store.state c.erase_last.new.store).faults =
    omega (arith, c.expect_marked.ensures.cause.later, c.erase_last.ensures.cause.later) in
    record {
      keeps = keeps_erased c.args.job.now c.expect_marked.ensures.valid _ _ c.requires.settled c.requires.running c.in_ok-k.k c.in_ok-k.ensures.most
          c.in_ok-k.ensures.count change later;
      enters = enters_erased c.args.job.now c.expect_marked.ensures.valid _ _ c.requires.settled c.requires.running c.in_ok-k.k c.in_ok-k.ensures.most
          c.in_ok-k.ensures.count change c.requires.none c.in_ok-erase_last.ensures.erased;
      armed = armed_erased c.args.job.now c.expect_marked.ensures.valid _ _ c.requires.settled c.requires.running c.in_ok-k.k c.in_ok-k.ensures.most
          c.in_ok-k.ensures.count change;
      asked = c.in_ok-k.ensures.asked;
      compared = c.in_ok-k.ensures.compared;
      seen = λ refuses kept. c.in_ok-erase_last.ensures.seen (c.in_ok-k.ensures.seen refuses kept);
      cause = record { later = later; failed = tt };
    }

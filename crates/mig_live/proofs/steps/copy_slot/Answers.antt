use Rattle.mig_journal.proofs.Steps.{remembers_synced, failed_ground_after}
use Rattle.mig_live.proofs.Common.{Flight, StoreFailed, [], arith}
use Rattle.mig_live.proofs.OneCopy.{begun_part, change_ended, landed_ended}
use Rattle.mig_live.proofs.steps.copy_slot.Goals as goal

pub returns-in_err-begin-clause-part : goal.returns-in_err-begin-clause-part
returns-in_err-begin-clause-part g c =
    let f : Flight = record { from = c.args.from.now; to = c.args.to.now } in
    begun_part f (g.S.Store.state c.args.store.now) (g.S.Store.state c.begin.new.self) c.begin.ensures.change.0 c.begin.ensures.change.1

pub returns-in_err-ended-clause-part : goal.returns-in_err-ended-clause-part
returns-in_err-ended-clause-part g c =
    let f : Flight = record { from = c.args.from.now; to = c.args.to.now } in
    (1, change_ended f (g.S.Store.state c.args.store.now) (g.S.Store.state c.begin.new.self) c.requires.none c.in_ok-begin.ensures.begun (g.S.Store.state c.ended.new.self) [] c.in_err-ended.ensures.ends)

pub returns-in_err-ended-clause-seen : goal.returns-in_err-ended-clause-seen
returns-in_err-ended-clause-seen g c = remembers_synced c.begin.ensures.seen c.ended.ensures.seen

pub returns-in_err-ended-clause-cause : goal.returns-in_err-ended-clause-cause
returns-in_err-ended-clause-cause g c = failed_ground_after _ (g.S.Store.state c.begin.new.self) c.begin.ensures.cause.later c.ended.ensures.cause.later c.in_err-ended.ensures.cause.failed

pub returns : goal.returns
returns g c =
    let f : Flight = record { from = c.args.from.now; to = c.args.to.now } in
    let ended = c.in_ok-ended.ensures in
    let h = landed_ended f (g.S.Store.state c.args.store.now) (g.S.Store.state c.begin.new.self) c.requires.none c.in_ok-begin.ensures.begun
    c.requires.apart
    c.in_ok-begin.ensures.copied (g.S.Store.state c.ended.new.self) StoreFailed c.in_ok-ended.field-0 ended.ends ended.none in record {
      copied = h.holds;
      landed = h.landed;
      made = h.made;
      part = (2, h.made);
      noted = λ refuses.
          let both = c.in_ok-begin.ensures.noted refuses in
          let seen = c.ended.ensures.seen in
          (both.0, both.1, seen c.args.from.now both.0 (λ none. none) both.2, seen c.args.to.now both.0 (λ none. none) both.3);
      seen = remembers_synced c.begin.ensures.seen c.ended.ensures.seen;
      cause = record { later = omega (arith, c.begin.ensures.cause.later, c.ended.ensures.cause.later); failed = tt };
    }

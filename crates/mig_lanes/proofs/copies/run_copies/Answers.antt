use Rattle.mig_journal.proofs.Steps.{remembers_then, failed_ground_after}
use Rattle.mig_mover.proofs.SeenSlots.{cause_ground, ground_after}
use Rattle.mig_lanes.proofs.SeenRounds.{seen_ended}
use Rattle.mig_lanes.proofs.Common.{began, copies_of, ended, ends_then, map, on_ok_weaker, take, ◌++◌, arith, on_ok_is}
use Rattle.mig_lanes.proofs.RoundCopies.{are_flights}
use Rattle.mig_lanes.proofs.Rounding.{part_begun, mid_are, ended_change, part_ended, whole_round, all_copied}
use Rattle.mig_lanes.proofs.copies.run_copies.Goals as goal

pub returns-in_err-begin_copies-clause-part : goal.returns-in_err-begin_copies-clause-part
returns-in_err-begin_copies-clause-part g c = λ told. (map began (take c.begin_copies.ensures.change.0 (copies_of c.args.job.now c.args.round)), part_begun (copies_of c.args.job.now c.args.round) c.begin_copies.ensures.change.0, c.begin_copies.ensures.change.1)

pub end_copies-requires : goal.end_copies-requires
end_copies-requires g c = mid_are (copies_of c.args.job.now c.args.round) (are_flights c.args.job.now c.round_len.ensures.valid c.args.round c.requires.from c.requires.to) (g.S.Store.state c.args.store.now) (g.S.Store.state c.begin_copies.new.store) c.requires.none c.in_ok-begin_copies.ensures.begun

pub returns-in_err-end_copies-clause-part : goal.returns-in_err-end_copies-clause-part
returns-in_err-end_copies-clause-part g c = λ told.
    let cs = copies_of c.args.job.now c.args.round in
    let are = are_flights c.args.job.now c.round_len.ensures.valid c.args.round c.requires.from c.requires.to in
    let first = g.S.Store.state c.args.store.now in
    let mid = g.S.Store.state c.begin_copies.new.store in
    let these = c.end_copies.ensures.ends.0 in (
      map began cs ++ map ended these,
      part_ended cs are first mid c.requires.none c.in_ok-begin_copies.ensures.begun these (g.S.Store.state c.end_copies.new.store) c.end_copies.ensures.ends.1 told,
      ended_change cs are first mid c.requires.none c.in_ok-begin_copies.ensures.begun these (g.S.Store.state c.end_copies.new.store) c.end_copies.ensures.ends.1,
    )

pub returns-in_err-end_copies-clause-change : goal.returns-in_err-end_copies-clause-change
returns-in_err-end_copies-clause-change g c =
    let cs = copies_of c.args.job.now c.args.round in
    let are = are_flights c.args.job.now c.round_len.ensures.valid c.args.round c.requires.from c.requires.to in
    let these = c.end_copies.ensures.ends.0 in (
      map began cs ++ map ended these,
      ended_change cs are (g.S.Store.state c.args.store.now) (g.S.Store.state c.begin_copies.new.store) c.requires.none c.in_ok-begin_copies.ensures.begun these (g.S.Store.state c.end_copies.new.store) c.end_copies.ensures.ends.1,
    )

pub returns : goal.returns
returns g c =
    let cs = copies_of c.args.job.now c.args.round in
    let are = are_flights c.args.job.now c.round_len.ensures.valid c.args.round c.requires.from c.requires.to in
    let first = g.S.Store.state c.args.store.now in
    let mid = g.S.Store.state c.begin_copies.new.store in
    let late = g.S.Store.state c.end_copies.new.store in
    let new = g.S.Store.state c.settle_copies.new.store in
    let these = c.end_copies.ensures.ends.0 ++ c.settle_copies.ensures.ends.0 in
    let begun = c.in_ok-begin_copies.ensures.begun in
    let ends = ends_then c.end_copies.ensures.ends.0 c.settle_copies.ensures.ends.0 mid late new (mid_are cs are first mid c.requires.none begun) c.end_copies.ensures.ends.1 c.settle_copies.ensures.ends.1 in
    let added = map began cs ++ map ended these in
    let change = ended_change cs are first mid c.requires.none begun these new ends in
    record {
      copied = on_ok_weaker c.settle_copies.result (λ landed. all_copied cs are first mid c.requires.none begun these new ends c.in_ok-begin_copies.ensures.landed landed) c.settle_copies.ensures.landed;
      settled = c.settle_copies.ensures.settled;
      landed = c.settle_copies.ensures.landed;
      round = on_ok_weaker c.settle_copies.result (λ landed told. (added, whole_round cs are first mid c.requires.none begun these new ends landed told, change)) c.settle_copies.ensures.landed;
      part = λ told. (added, part_ended cs are first mid c.requires.none begun these new ends told, change);
      change = (added, change);
      seen = on_ok_is c.settle_copies.result (λ k is refuses seeing. seen_ended c.args.job.now c.round_len.ensures.valid k (omega (arith, is, c.requires.to)) c.args.round is (g.S.Store.seen c.begin_copies.new.store) (g.S.Store.seen c.settle_copies.new.store)
          first.reads mid.reads new.reads (c.in_ok-begin_copies.ensures.seen k is refuses seeing) (remembers_then c.end_copies.ensures.seen c.settle_copies.ensures.seen) begun.told change.told
          (λ slot item name was. g.met.S.Store.holds_seen c.settle_copies.new.store slot item refuses name was));
      cause = ground_after c.settle_copies.result (omega (arith, c.begin_copies.ensures.cause.later, c.end_copies.ensures.cause.later)) (λ why. why) (cause_ground c.settle_copies.result c.settle_copies.ensures.cause);
    }

pub returns-in_err-end_copies-clause-cause : goal.returns-in_err-end_copies-clause-cause
returns-in_err-end_copies-clause-cause g c = failed_ground_after _ (g.S.Store.state c.begin_copies.new.store) c.begin_copies.ensures.cause.later c.end_copies.ensures.cause.later c.in_err-end_copies.ensures.cause.failed

use Rattle.mig_journal.proofs.Steps.{err_any}
use Rattle.mig_mover.proofs.SeenSlots.{cause_ground, ground_after, rose_with}
use Rattle.mig_lanes.proofs.Common.{Adds, AreRoundEvents, AreRounds, BeginsRound, BeginsRounds, HasDone, IsSound, IsWorkCell, NoCell, [], arith, copies_of, ends_are_quiet, later_rounds, leaves_none}
use Rattle.mig_lanes.proofs.Common.{leaves_then, length, map, on_ok_is, on_ok_weaker, quiet_leaves, range_with_len, rules, same_image, subst, ℕ, ◌+◌, ◌-◌, ◌≡◌}
use Rattle.mig_lanes.proofs.CarryingOn.{change_none, change_then, change_quiet, none_yet, done_synced}
use Rattle.mig_lanes.proofs.EventSteps.{adds_then, adds_kept, adds_wider}
use Rattle.mig_lanes.proofs.RoundLists.{rounds_next, rounds_part, all_begin}
use Rattle.mig_lanes.proofs.rounds.carry_on.Goals as goal

pub loop-done-init : goal.loop-done-init
loop-done-init g c =
    let old = g.S.Store.state c.args.store.now in
    record {
      low = omega arith;
      any_moment = λ asked contents done. leaves_none (IsSound asked c.args.job.now.input c.args.job.now.plan c.args.job.now.digest contents) old;
      done = λ asked contents done. done;
      landed = c.requires.none;
      rounds = none_yet c.args.job.now c.args.k old;
      change = change_none (IsWorkCell c.args.job.now.input c.args.job.now.plan) old;
      later = omega arith;
      seen = λ refuses seeing. seeing;
    }

pub returns-in_err-carry_out-clause-any_moment : goal.returns-in_err-carry_out-clause-any_moment
returns-in_err-carry_out-clause-any_moment g c = λ asked contents done.
    leaves_then (IsSound asked c.args.job.now.input c.args.job.now.plan c.args.job.now.digest contents) (g.S.Store.state c.args.store.now) (g.S.Store.state c.loop-done.store) (g.S.Store.state c.carry_out.new.store)
    (c.loop-done.invariant.any_moment asked contents done) (c.carry_out.ensures.any_moment asked contents (c.loop-done.invariant.done asked contents done))

pub returns-in_err-carry_out-clause-part : goal.returns-in_err-carry_out-clause-part
returns-in_err-carry_out-clause-part g c =
    adds_then (AreRounds (map (copies_of c.args.job.now) (range_with_len (c.args.k + 1) (c.loop-done.done - c.args.k)))) (g.S.Store.state c.args.store.now) (g.S.Store.state c.loop-done.store) (g.S.Store.state c.carry_out.new.store)
    (BeginsRound (copies_of c.args.job.now (c.loop-done.done + 1))) (BeginsRounds (later_rounds c.args.job.now c.args.k))
    (rounds_part c.args.job.now c.args.k c.loop-done.done c.loop-done.invariant.low (omega (arith, c.loop-done-test.true, c.rounds-done-end.ensures.count)))
    c.loop-done.invariant.rounds c.carry_out.ensures.part

pub returns-in_err-carry_out-clause-change : goal.returns-in_err-carry_out-clause-change
returns-in_err-carry_out-clause-change g c =
    change_then (IsWorkCell c.args.job.now.input c.args.job.now.plan) (g.S.Store.state c.args.store.now) (g.S.Store.state c.loop-done.store) (g.S.Store.state c.carry_out.new.store) c.loop-done.invariant.change c.carry_out.ensures.change

pub loop-done-preserved : goal.loop-done-preserved
loop-done-preserved g c =
    let old = g.S.Store.state c.args.store.now in
    let mid = g.S.Store.state c.loop-done.store in
    let new = g.S.Store.state c.carry_out.new.store in
    record {
      low = omega (arith, c.loop-done.invariant.low);
      any_moment = λ asked contents done. leaves_then (IsSound asked c.args.job.now.input c.args.job.now.plan c.args.job.now.digest contents) old mid new
          (c.loop-done.invariant.any_moment asked contents done) (c.carry_out.ensures.any_moment asked contents (c.loop-done.invariant.done asked contents done));
      done = λ asked contents done. c.in_ok-carry_out.ensures.done asked contents (c.loop-done.invariant.done asked contents done);
      landed = c.in_ok-carry_out.ensures.landed;
      rounds = adds_then (AreRounds (map (copies_of c.args.job.now) (range_with_len (c.args.k + 1) (c.loop-done.done - c.args.k)))) old mid new
          (AreRoundEvents (copies_of c.args.job.now (c.loop-done.done + 1))) (AreRounds (map (copies_of c.args.job.now) (range_with_len (c.args.k + 1) (c.loop-done.done + 1 - c.args.k))))
          (rounds_next c.args.job.now c.args.k c.loop-done.done c.loop-done.invariant.low) c.loop-done.invariant.rounds c.in_ok-carry_out.ensures.round;
      change = change_then (IsWorkCell c.args.job.now.input c.args.job.now.plan) old mid new c.loop-done.invariant.change c.carry_out.ensures.change;
      later = omega (arith, c.loop-done.invariant.later, c.carry_out.ensures.cause.later);
      seen = λ refuses seeing. c.in_ok-carry_out.ensures.seen refuses (c.loop-done.invariant.seen refuses seeing);
    }

pub returns : goal.returns
returns g c =
    let old = g.S.Store.state c.args.store.now in
    let mid = g.S.Store.state c.loop-done.store in
    let new = g.S.Store.state c.sync.new.self in
    let l = c.loop-done.invariant in
    let quiet = ends_are_quiet mid new l.landed c.sync.ensures.ends.0 c.sync.ensures.ends.1 in
    let end : c.loop-done.done ≡ length c.args.job.now.plan = omega (arith, c.loop-done-test.false, c.loop-done.auto.done-end, c.rounds-done-end.ensures.count, l.low, c.requires.most) in
    let all = AreRounds (later_rounds c.args.job.now c.args.k) in
    let rounds = adds_kept all old mid new
    (subst (λ (n : ℕ). Adds (AreRounds (map (copies_of c.args.job.now) (range_with_len (c.args.k + 1) (n - c.args.k)))) old mid) end l.rounds) quiet.events in
    record {
      any_moment = λ asked contents done.
          (let sound = IsSound asked c.args.job.now.input c.args.job.now.plan c.args.job.now.digest contents in
          leaves_then sound old mid new (l.any_moment asked contents done) (quiet_leaves sound NoCell [] mid new (g.met.S.Store.is_state c.loop-done.store) quiet));
      done = on_ok_weaker c.sync.result (λ settled asked contents done.
          subst (HasDone asked c.args.job.now.input c.args.job.now.plan c.args.job.now.digest contents new) end
          (done_synced asked c.args.job.now contents c.loop-done.done mid new (same_image mid.reads new.reads quiet.told) settled (l.done asked contents done))) c.sync.ensures.settled;
      settled = search rules;
      landed = search rules;
      rounds = on_ok_is c.sync.result rounds;
      part = adds_wider all (BeginsRounds (later_rounds c.args.job.now c.args.k)) old new (all_begin c.args.job.now c.args.k) rounds;
      change = change_quiet (IsWorkCell c.args.job.now.input c.args.job.now.plan) old mid new l.change quiet;
      cause = ground_after c.sync.result l.later (λ why. why) (cause_ground c.sync.result c.sync.ensures.cause);
    }

pub returns-in_err-carry_out-clause-cause : goal.returns-in_err-carry_out-clause-cause
returns-in_err-carry_out-clause-cause g c = record {
  later = omega (arith, c.loop-done.invariant.later, c.carry_out.ensures.cause.later);
  failed = err_any _ (rose_with c.loop-done.invariant.later (λ refuses not seeing. not (c.loop-done.invariant.seen refuses seeing)) c.in_err-carry_out.ensures.cause.failed);
}

use Rattle.mig_journal.proofs.Steps.{err_any}
use Rattle.mig_lanes.proofs.SeenRounds.{begun_copy, refused_copy}
use Rattle.mig_lanes.proofs.Common.{Changes, Flight, IsCopy, IsSourceOf, IsTargetOf, IsTrue, [], arith, began, copies_of, flight_of, flights, is_slot, length-map, round_at, subst, sym, take, ◌∷◌}
use Rattle.mig_lanes.proofs.Common.{◌≡◌, ◌≢◌}
use Rattle.mig_lanes.proofs.Beginning.{cells_apart, from_still, not_target, not_source, landed_more, change_more, change_failed}
use Rattle.mig_lanes.proofs.RoundCopies.{are_flights, copy_within, copy_here}
use Rattle.mig_jobs.proofs.JobRounds.{no_shift}
use Rattle.mig_mover.proofs.EraseSteps.{to_named}
use Rattle.mig_lanes.proofs.copies.begin_copies.Goals as goal

pub begin-requires-clause-slots : goal.begin-requires-clause-slots
begin-requires-clause-slots g c =
    let f : Flight = record { from = c.copy-from.result.0; to = c.copy-from.result.1 } in
    subst (λ (h : Flight). IsTrue (is_slot h.from) × IsTrue (is_slot h.to)) (sym (copy_here c.args.job.now c.args.round c.loop-place.place f c.copy-from.ensures))
    ((are_flights c.args.job.now c.round_len-place-end.ensures.valid c.args.round c.requires.from c.requires.to).slots c.loop-place.place f (copy_within c.args.job.now c.args.round c.loop-place.place f c.copy-from.ensures))

pub begin-requires-clause-apart : goal.begin-requires-clause-apart
begin-requires-clause-apart g c =
    let f : Flight = record { from = c.copy-from.result.0; to = c.copy-from.result.1 } in
    subst (λ (h : Flight). h.from ≢ h.to) (sym (copy_here c.args.job.now c.args.round c.loop-place.place f c.copy-from.ensures))
    (cells_apart (copies_of c.args.job.now c.args.round) (are_flights c.args.job.now c.round_len-place-end.ensures.valid c.args.round c.requires.from c.requires.to) c.loop-place.place f (copy_within c.args.job.now c.args.round c.loop-place.place f c.copy-from.ensures))

pub begin-requires-clause-asked : goal.begin-requires-clause-asked
begin-requires-clause-asked g c =
    let f : Flight = record { from = c.copy-from.result.0; to = c.copy-from.result.1 } in
    c.requires.asked f.to (to_named c.args.job.now.input c.args.job.now.plan c.args.round c.loop-place.place (omega (arith, c.loop-place-test.true, c.round_len-place-end.ensures.count)) f no_shift c.copy-from.ensures)

pub begin-requires-clause-from_still : goal.begin-requires-clause-from_still
begin-requires-clause-from_still g c =
    let f : Flight = record { from = c.copy-from.result.0; to = c.copy-from.result.1 } in
    subst (λ (h : Flight). ¬ IsTargetOf (flights (g.S.Store.state c.loop-place.store)) h.from) (sym (copy_here c.args.job.now c.args.round c.loop-place.place f c.copy-from.ensures))
    (from_still (copies_of c.args.job.now c.args.round) (are_flights c.args.job.now c.round_len-place-end.ensures.valid c.args.round c.requires.from c.requires.to) (g.S.Store.state c.args.store.now) (g.S.Store.state c.loop-place.store) c.loop-place.place c.requires.none
    c.loop-place.invariant.change.events f (copy_within c.args.job.now c.args.round c.loop-place.place f c.copy-from.ensures))

pub begin-requires-clause-not_target : goal.begin-requires-clause-not_target
begin-requires-clause-not_target g c =
    let f : Flight = record { from = c.copy-from.result.0; to = c.copy-from.result.1 } in
    subst (λ (h : Flight). ¬ IsTargetOf (flights (g.S.Store.state c.loop-place.store)) h.to) (sym (copy_here c.args.job.now c.args.round c.loop-place.place f c.copy-from.ensures))
    (not_target (copies_of c.args.job.now c.args.round) (are_flights c.args.job.now c.round_len-place-end.ensures.valid c.args.round c.requires.from c.requires.to) (g.S.Store.state c.args.store.now) (g.S.Store.state c.loop-place.store) c.loop-place.place c.requires.none
    c.loop-place.invariant.change.events f (copy_within c.args.job.now c.args.round c.loop-place.place f c.copy-from.ensures))

pub begin-requires-clause-not_source : goal.begin-requires-clause-not_source
begin-requires-clause-not_source g c =
    let f : Flight = record { from = c.copy-from.result.0; to = c.copy-from.result.1 } in
    subst (λ (h : Flight). ¬ IsSourceOf (flights (g.S.Store.state c.loop-place.store)) h.to) (sym (copy_here c.args.job.now c.args.round c.loop-place.place f c.copy-from.ensures))
    (not_source (copies_of c.args.job.now c.args.round) (are_flights c.args.job.now c.round_len-place-end.ensures.valid c.args.round c.requires.from c.requires.to) (g.S.Store.state c.args.store.now) (g.S.Store.state c.loop-place.store) c.loop-place.place c.requires.none
    c.loop-place.invariant.change.events f (copy_within c.args.job.now c.args.round c.loop-place.place f c.copy-from.ensures))

pub returns-in_err-begin-clause-change : goal.returns-in_err-begin-clause-change
returns-in_err-begin-clause-change g c =
    let f : Flight = record { from = c.copy-from.result.0; to = c.copy-from.result.1 } in
    let step = c.begin.ensures.change in
    change_failed (copies_of c.args.job.now c.args.round) (are_flights c.args.job.now c.round_len-place-end.ensures.valid c.args.round c.requires.from c.requires.to) (g.S.Store.state c.args.store.now) (g.S.Store.state c.loop-place.store) c.loop-place.place c.requires.none
    c.loop-place.invariant.change.events f (copy_within c.args.job.now c.args.round c.loop-place.place f c.copy-from.ensures) (g.S.Store.state c.begin.new.self) step.0
    (subst (λ (h : Flight). Changes (λ k. k ≡ h.to) (λ k. k ≡ h.to) (take step.0 (began h ∷ [])) (g.S.Store.state c.loop-place.store) (g.S.Store.state c.begin.new.self)) (copy_here c.args.job.now c.args.round c.loop-place.place f c.copy-from.ensures) step.1)
    c.loop-place.invariant.change

pub loop-place-preserved : goal.loop-place-preserved
loop-place-preserved g c =
    let f : Flight = record { from = c.copy-from.result.0; to = c.copy-from.result.1 } in
    let cs = copies_of c.args.job.now c.args.round in
    let are = are_flights c.args.job.now c.round_len-place-end.ensures.valid c.args.round c.requires.from c.requires.to in
    let here = copy_here c.args.job.now c.args.round c.loop-place.place f c.copy-from.ensures in
    let within = copy_within c.args.job.now c.args.round c.loop-place.place f c.copy-from.ensures in
    let first = g.S.Store.state c.args.store.now in
    let mid = g.S.Store.state c.loop-place.store in
    let new = g.S.Store.state c.begin.new.self in
    let begun = subst (λ (h : Flight). Changes (λ k. k ≡ h.to) (λ k. k ≡ h.to) (began h ∷ []) mid new) here c.in_ok-begin.ensures.begun in
    let copied = subst (λ (h : Flight). ¬ IsTargetOf (flights new) h.to → IsCopy (mid.reads h.from) (new.reads h.to)) here (λ out. c.in_ok-begin.ensures.copied (λ moving. out moving.1)) in
    record {
      change = change_more cs are first mid c.loop-place.place c.requires.none c.loop-place.invariant.change.events f within new begun copied c.loop-place.invariant.change.told c.loop-place.invariant.landed c.loop-place.invariant.change;
      landed = landed_more cs are first mid c.loop-place.place c.requires.none c.loop-place.invariant.change.events f within new begun copied c.loop-place.invariant.change.told c.loop-place.invariant.landed;
      later = omega (arith, c.loop-place.invariant.later, c.begin.ensures.cause.later);
      seen = λ k is refuses seeing. begun_copy c.args.job.now c.round_len-place-end.ensures.valid k (omega (arith, is, c.requires.to)) c.args.round is c.loop-place.place (omega (arith, c.loop-place-test.true, c.round_len-place-end.ensures.count)) f c.copy-from.ensures
          (g.S.Store.seen c.loop-place.store) mid.reads (λ slot item name was. g.met.S.Store.holds_seen c.loop-place.store slot item refuses name was) (c.loop-place.invariant.seen k is refuses seeing)
          (g.S.Store.seen c.begin.new.self) new.reads c.in_ok-begin.ensures.begun.told c.begin.ensures.seen (c.in_ok-begin.ensures.noted refuses) (λ slot item name was. g.met.S.Store.holds_seen c.begin.new.self slot item refuses name was);
    }

pub returns-clause-landed : goal.returns-clause-landed
returns-clause-landed g c = λ k d lt. c.loop-place.invariant.landed k d (omega arith)
    (omega (arith, lt, c.loop-place-test.false, c.round_len-place-end.ensures.count, length-map (round_at c.args.job.now.plan c.args.round) (flight_of c.args.job.now.input)))

pub returns-in_err-begin-clause-cause : goal.returns-in_err-begin-clause-cause
returns-in_err-begin-clause-cause g c =
    let f : Flight = record { from = c.copy-from.result.0; to = c.copy-from.result.1 } in
    record {
      later = omega (arith, c.loop-place.invariant.later, c.begin.ensures.cause.later);
      failed = err_any _ (refused_copy c.args.job.now c.round_len-place-end.ensures.valid c.args.round c.requires.from c.requires.to c.loop-place.place (omega (arith, c.loop-place-test.true, c.round_len-place-end.ensures.count)) f c.copy-from.ensures c.loop-place.invariant.later
          (g.S.Store.seen c.loop-place.store) (g.S.Store.state c.loop-place.store).reads (λ refuses slot item name was. g.met.S.Store.holds_seen c.loop-place.store slot item refuses name was)
          (λ k is refuses seeing. (c.loop-place.invariant.seen k is refuses seeing).0) (g.S.Store.seen c.begin.new.self) c.begin.ensures.seen c.in_err-begin.ensures.cause.failed);
    }

pub returns-clause-seen : goal.returns-clause-seen
returns-clause-seen g c = λ k is refuses seeing.
    let now = c.loop-place.invariant.seen k is refuses seeing in
    (now.0, λ j d lt. now.1 j d (omega arith) (omega (arith, lt, c.loop-place-test.false, c.round_len-place-end.ensures.count)))

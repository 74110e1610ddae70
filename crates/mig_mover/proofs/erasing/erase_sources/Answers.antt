use Rattle.mig_mover.proofs.Common.{arith, inl, length, round_at, ◌<◌}
use Rattle.mig_mover.proofs.EraseSteps.{both_slots, erased_more, left_slot}
use Rattle.mig_mover.proofs.SeenSlots.{ground_err, not_last, seen_erased, source_free_slot}
use Rattle.mig_mover.proofs.Settling.{slot_step}
use Rattle.mig_mover.proofs.erasing.erase_sources.Goals as goal

pub erase-requires-clause-slot : goal.erase-requires-clause-slot
erase-requires-clause-slot g c = (both_slots c.args.job.now.input c.args.job.now.plan c.args.round c.loop-place.place
    (omega (arith, c.loop-place-test.true, c.round_len-place-end.ensures.count)) c.copy-from.ensures).0

pub erase-requires-clause-asked : goal.erase-requires-clause-asked
erase-requires-clause-asked g c =
    let left = left_slot c.args.job.now.input c.args.job.now.plan c.args.round c.loop-place.place
    (omega (arith, c.loop-place-test.true, c.round_len-place-end.ensures.count)) c.copy-from.ensures in
    c.requires.asked c.copy-from.result.0 (left.0, (c.args.round, inl left.1), left.2)

pub returns-in_err-erase-clause-change : goal.returns-in_err-erase-clause-change
returns-in_err-erase-clause-change g c = slot_step c.loop-place.invariant.change c.erase.ensures.change
    (left_slot c.args.job.now.input c.args.job.now.plan c.args.round c.loop-place.place
    (omega (arith, c.loop-place-test.true, c.round_len-place-end.ensures.count)) c.copy-from.ensures)

pub loop-place-preserved : goal.loop-place-preserved
loop-place-preserved g c =
    let job = c.args.job.now in
    let is = c.round_len-place-end.ensures.valid in
    let lt : c.loop-place.place < length (round_at job.plan c.args.round) = omega (arith, c.loop-place-test.true, c.round_len-place-end.ensures.count)
    in
    let left = left_slot job.input job.plan c.args.round c.loop-place.place lt c.copy-from.ensures in
    record {
      erased = erased_more job.input job.plan c.args.round c.loop-place.place lt c.copy-from.ensures c.erase.ensures.change.told
          c.loop-place.invariant.erased
          c.in_ok-erase.ensures.erased;
      change = slot_step c.loop-place.invariant.change c.erase.ensures.change left;
      later = omega (arith, c.loop-place.invariant.later, c.erase.ensures.cause.later);
      seen = λ seeing. seen_erased job is c.args.round c.requires.to _ _ (c.loop-place.invariant.seen seeing) c.copy-from.result.0
          (source_free_slot job is c.args.round c.requires.to c.copy-from.result.0 left) _ _ c.erase.ensures.change.told c.erase.ensures.seen
          c.in_ok-erase.ensures.erased;
    }

pub returns-in_err-erase-clause-cause : goal.returns-in_err-erase-clause-cause
returns-in_err-erase-clause-cause g c =
    let job = c.args.job.now in
    let is = c.round_len-place-end.ensures.valid in
    let left = left_slot job.input job.plan c.args.round c.loop-place.place
    (omega (arith, c.loop-place-test.true, c.round_len-place-end.ensures.count)) c.copy-from.ensures in
    ground_err _ c.loop-place.invariant.later c.erase.ensures.cause.later (λ refuses last seeing.
    not_last job is c.args.round c.requires.to _ _ (c.loop-place.invariant.seen seeing) c.copy-from.result.0
    (source_free_slot job is c.args.round c.requires.to c.copy-from.result.0 left) last) c.in_err-erase.ensures.cause.failed

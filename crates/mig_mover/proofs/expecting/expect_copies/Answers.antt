use Rattle.mig_mover.proofs.Common.{AreAlike, Image, Shift, SlotsDiffer, arith, length, no_shift, quiet_same, remembers_then, round_at, slot_of}
use Rattle.mig_mover.proofs.Common.{subst, then_quiet, ◌<◌}
use Rattle.mig_mover.proofs.EraseSteps.{of_copy}
use Rattle.mig_mover.proofs.SeenSlots.{ground_err}
use Rattle.mig_mover.proofs.TargetLaws.{next_within}
use Rattle.mig_mover.proofs.expecting.expect_copies.Goals as goal

pub loop-place-preserved : goal.loop-place-preserved
loop-place-preserved g c =
    let input = c.args.job.now.input in
    let round = round_at c.args.job.now.plan c.args.found in
    let lt : c.loop-place.place < length round = omega (arith, c.loop-place-test.true, c.round_len-place-end.ensures.count) in
    record {
      compared = next_within (λ (s : Shift). g.S.Store.compared (slot_of input s.from) (slot_of input s.to)) round c.loop-place.place no_shift lt
          c.loop-place.invariant.compared (of_copy (λ f. g.S.Store.compared f.from f.to) input round c.loop-place.place lt
          c.in_ok-expect_copied.ensures.compared);
      seen = remembers_then c.loop-place.invariant.seen c.expect_copied.ensures.seen;
      change = then_quiet _ _ _ _ c.loop-place.invariant.change c.expect_copied.ensures.change;
      later = omega (arith, c.loop-place.invariant.later, c.expect_copied.ensures.cause.later);
    }

pub returns-in_err-expect_copied-clause-cause : goal.returns-in_err-expect_copied-clause-cause
returns-in_err-expect_copied-clause-cause g c =
    let round = round_at c.args.job.now.plan c.args.found in
    let lt : c.loop-place.place < length round = omega (arith, c.loop-place-test.true, c.round_len-place-end.ensures.count) in
    ground_err _ c.loop-place.invariant.later c.expect_copied.ensures.cause.later (λ refuses differ alike.
    subst (λ (image : Image). AreAlike c.args.job.now image c.args.found) (quiet_same _ _ c.loop-place.invariant.change) alike c.loop-place.place
    no_shift lt
    (of_copy (λ f. SlotsDiffer (g.S.Store.state c.loop-place.store).reads f.from f.to) c.args.job.now.input round c.loop-place.place lt differ))
    c.in_err-expect_copied.ensures.cause.failed

use Rattle.mig_mover.proofs.Common.{All, Cell, Image, IsLast, IsUnused, List, Spot, arith, get_or, look_quiet, no_spot, quiet_same, slot_of}
use Rattle.mig_mover.proofs.Common.{still_none, subst, sym, then_quiet}
use Rattle.mig_mover.proofs.FillSteps.{spot_listed}
use Rattle.mig_mover.proofs.ReadyKept.{unused_not_last}
use Rattle.mig_mover.proofs.SeenSlots.{ground_err}
use Rattle.mig_mover.proofs.TargetLaws.{next_within}
use Rattle.mig_mover.proofs.filling.find_taken.Goals as goal

pub returns-in_err-expects_free-clause-change : goal.returns-in_err-expects_free-clause-change
returns-in_err-expects_free-clause-change g c =
    let used = then_quiet _ _ _ _ c.loop-spot.invariant.change c.is_used.ensures.change in
    then_quiet _ _ _ _ used (look_quiet _ _ (still_none _ _ _ c.requires.none used) c.expects_free.ensures.change)

pub loop-spot-preserved : goal.loop-spot-preserved
loop-spot-preserved g c =
    let input = c.args.input.now in
    let spots = c.now-spot-items.result.now in
    let same = quiet_same _ _ c.loop-spot.invariant.change in
    let used = then_quiet _ _ _ _ c.loop-spot.invariant.change c.is_used.ensures.change in
    record {
      unused = next_within (IsUnused input (g.S.Store.state c.args.store.now).reads) spots c.loop-spot.spot-index no_spot c.loop-spot-test.true
          c.loop-spot.invariant.unused (rw (c.if-branch.false, ← same) at c.in_ok-is_used.ensures.answer);
      asked = next_within (λ (p : Spot). g.S.Store.asked (slot_of input p)) spots c.loop-spot.spot-index no_spot c.loop-spot-test.true
          c.loop-spot.invariant.asked (subst g.S.Store.asked c.spot_cell.ensures c.in_ok-expects_free.ensures.asked);
      change = then_quiet _ _ _ _ used (look_quiet _ _ (still_none _ _ _ c.requires.none used) c.expects_free.ensures.change);
      later = omega (arith, c.loop-spot.invariant.later, c.is_used.ensures.cause.later, c.expects_free.ensures.cause.later);
    }

pub returns-clause-asked : goal.returns-clause-asked
returns-clause-asked g c = subst (λ (l : List Spot). All (λ spot. g.S.Store.asked (slot_of c.args.input.now spot)) l) c.now-spot-items.ensures.value
    (λ k d lt. c.loop-spot.invariant.asked k d (omega arith) (omega (arith, lt, c.loop-spot-test.false)))

pub returns-in_err-expects_free-clause-cause : goal.returns-in_err-expects_free-clause-cause
returns-in_err-expects_free-clause-cause g c =
    let input = c.args.input.now in
    let spot = get_or c.now-spot-items.result.now c.loop-spot.spot-index no_spot in
    let same = quiet_same _ _ c.loop-spot.invariant.change in
    let seek = quiet_same _ _ (then_quiet _ _ _ _ c.loop-spot.invariant.change c.is_used.ensures.change) in
    ground_err _ (omega (arith, c.loop-spot.invariant.later, c.is_used.ensures.cause.later)) c.expects_free.ensures.cause.later (λ refuses last tells.
    unused_not_last input (g.S.Store.state c.args.store.now).reads spot
    (spot_listed input c.now-spot-items.result.now c.now-spot-items.ensures.value c.loop-spot.spot-index c.loop-spot-test.true) tells
    (rw (c.if-branch.false, ← same) at c.in_ok-is_used.ensures.answer)
    (subst (λ (image : Image). IsLast image (g.S.Store.seen c.is_used.new.store) (slot_of input spot)) (sym seek)
    (subst (λ (k : Cell). IsLast (g.S.Store.state c.is_used.new.store).reads (g.S.Store.seen c.is_used.new.store) k) c.spot_cell.ensures last)))
    c.in_err-expects_free.ensures.cause.failed

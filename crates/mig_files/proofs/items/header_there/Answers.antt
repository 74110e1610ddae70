use Rattle.mig_files.proofs.Common.{EndsAt, Extent, WhereTold, ap, arith, file_of, inr, len_of, length, rules, subst, ◌≡◌}
use Rattle.mig_files.proofs.TrackingSteps.{step_then, quiet_step}
use Rattle.mig_files.proofs.Derivation.{part_read, end_at_cell, end_after}
use Rattle.mig_files.proofs.Grounds.{empty_lacks}
use Rattle.mig_files.proofs.items.header_there.Goals as goal

pub refuse_with-requires-clause-cause : goal.refuse_with-requires-clause-cause
refuse_with-requires-clause-cause g c =
    let b = g.C.Calls.state c.open_place.new.calls in
    let ends = end_at_cell (g.C.Calls.state c.args.calls.now) c.args.slot.now _ c.place_of-place.ensures.file c.in_ok-found.ensures.end in
    subst (λ (found : Extent). WhereTold b c.args.slot.now (EndsAt (b.reads (file_of c.args.slot.now)) (len_of found))) c.in-Absent.is
    (end_after c.open_place.ensures.step.change (file_of c.args.slot.now) _ ends)

pub read_found-requires-clause-end : goal.read_found-requires-clause-end
read_found-requires-clause-end g c = end_after c.open_place.ensures.step.change _ _ c.in_ok-found.ensures.end

pub returns-in-Absent-clause-cause : goal.returns-in-Absent-clause-cause
returns-in-Absent-clause-cause g c =
    let a = g.C.Calls.state c.args.calls.now in
    let ends = end_at_cell a c.args.slot.now _ c.place_of-place.ensures.file c.in_ok-found.ensures.end in
    inr (
      omega (arith, c.open_place.ensures.step.change.refused, c.refuse_with.ensures.rose),
      empty_lacks a c.args.slot.now c.requires.slot c.args.item.now (ap len_of c.in-Absent.is) ends,
    )

pub returns-clause-header : goal.returns-clause-header
returns-clause-header g c =
    let len : length c.args.into.now ≡ 34 = search rules in
    let look = c.open_place.ensures.step.change in
    part_read c.args.slot.now 34 c.read_found.new.into look c.place_of-place.ensures.file c.place_of-place.ensures.offset
    (rw len at c.in_ok-read_found.ensures.bytes)

pub returns-clause-end : goal.returns-clause-end
returns-clause-end g c =
    end_at_cell (g.C.Calls.state c.args.calls.now) c.args.slot.now _ c.place_of-place.ensures.file c.in_ok-found.ensures.end

pub returns-clause-step : goal.returns-clause-step
returns-clause-step g c = step_then c.open_place.ensures.step (quiet_step c.open_place.ensures.step.tracked c.read_found.ensures.quiet)

pub returns-in_err-read_found-clause-step : goal.returns-in_err-read_found-clause-step
returns-in_err-read_found-clause-step g c =
    step_then c.open_place.ensures.step (quiet_step c.open_place.ensures.step.tracked c.read_found.ensures.quiet)

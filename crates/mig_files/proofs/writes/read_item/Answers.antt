use Rattle.mig_files.proofs.Common.{arith, file_of, inr, length, ◌∙◌}
use Rattle.mig_files.proofs.Headers.{held_by, header_after, first_has, not_held, whole_read}
use Rattle.mig_files.proofs.Derivation.{end_after}
use Rattle.mig_files.proofs.Grounds.{lacks_cell}
use Rattle.mig_files.proofs.writes.read_item.Goals as goal

pub note_held-requires-clause-holds : goal.note_held-requires-clause-holds
note_held-requires-clause-holds g c =
    let b = g.C.Calls.state c.read_part.new.calls in
    let n = length c.args.bytes.now in
    held_by b c.args.slot.now c.first_of.result c.in-Some.item c.in-Some.ensures.some
    (first_has b c.args.slot.now n c.read_part.new.into c.first_of.result c.requires.whole (omega (arith, c.read_part.auto.into)) c.first_of.ensures.first
    (header_after c.read_part.ensures.step.change c.args.slot.now n c.read_part.new.into c.in_ok-found.ensures.bytes))

pub note_held-requires-clause-end : goal.note_held-requires-clause-end
note_held-requires-clause-end g c = end_after c.read_part.ensures.step.change (file_of c.args.slot.now) _ c.in_ok-found.ensures.end

pub refuse_with-requires-clause-cause : goal.refuse_with-requires-clause-cause
refuse_with-requires-clause-cause g c = λ item name.
    let b = g.C.Calls.state c.read_part.new.calls in
    let n = length c.args.bytes.now in
    not_held b c.args.slot.now c.first_of.result item c.first_of.ensures.len name (c.in-None.ensures.none item name)
    (first_has b c.args.slot.now n c.read_part.new.into c.first_of.result c.requires.whole (omega (arith, c.read_part.auto.into)) c.first_of.ensures.first
    (header_after c.read_part.ensures.step.change c.args.slot.now n c.read_part.new.into c.in_ok-found.ensures.bytes))

pub returns-in_ok-note_held-in-Some-clause-bytes : goal.returns-in_ok-note_held-in-Some-clause-bytes
returns-in_ok-note_held-in-Some-clause-bytes g c =
    whole_read (g.C.Calls.state c.args.calls.now) c.args.slot.now (length c.args.bytes.now) c.read_part.new.into c.requires.length
    (c.read_part.auto.into ∙ c.requires.length) c.in_ok-found.ensures.bytes

pub returns-in_ok-note_held-in-Some-clause-holds : goal.returns-in_ok-note_held-in-Some-clause-holds
returns-in_ok-note_held-in-Some-clause-holds g c =
    let a = g.C.Calls.state c.args.calls.now in
    held_by a c.args.slot.now c.first_of.result c.in-Some.item c.in-Some.ensures.some
    (first_has a c.args.slot.now (length c.args.bytes.now) c.read_part.new.into c.first_of.result c.requires.whole (omega (arith, c.read_part.auto.into))
    c.first_of.ensures.first c.in_ok-found.ensures.bytes)

pub returns-in-None-clause-cause : goal.returns-in-None-clause-cause
returns-in-None-clause-cause g c =
    let a = g.C.Calls.state c.args.calls.now in
    let first = first_has a c.args.slot.now (length c.args.bytes.now) c.read_part.new.into c.first_of.result c.requires.whole (omega (arith, c.read_part.auto.into))
    c.first_of.ensures.first c.in_ok-found.ensures.bytes in
    inr (
      omega (arith, c.read_part.ensures.step.change.refused, c.refuse_with.ensures.rose),
      λ item name. lacks_cell a c.args.slot.now c.requires.slot item
          (not_held a c.args.slot.now c.first_of.result item c.first_of.ensures.len name (c.in-None.ensures.none item name) first),
    )

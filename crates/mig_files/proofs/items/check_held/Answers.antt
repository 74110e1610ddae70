use Rattle.mig_files.proofs.Common.{inr}
use Rattle.mig_files.proofs.Grounds.{lacks_cell}
use Rattle.mig_files.proofs.Headers.{held_by, not_held}
use Rattle.mig_files.proofs.items.check_held.Goals as goal

pub refuse_with-requires-clause-cause : goal.refuse_with-requires-clause-cause
refuse_with-requires-clause-cause g c =
    not_held (g.C.Calls.state c.args.calls.now) c.args.slot.now c.args.first.now c.args.item.now c.is_header.ensures.len c.is_header.ensures.name
    c.if-is_header.ensures.same c.requires.header

pub returns-then-is_header-clause-held : goal.returns-then-is_header-clause-held
returns-then-is_header-clause-held g c = held_by (g.C.Calls.state c.args.calls.now) c.args.slot.now c.args.first.now c.args.item.now c.if-is_header.ensures.same c.requires.header

pub returns-clause-cause : goal.returns-clause-cause
returns-clause-cause g c =
    let s = g.C.Calls.state c.args.calls.now in
    let not = not_held s c.args.slot.now c.args.first.now c.args.item.now c.is_header.ensures.len c.is_header.ensures.name c.if-is_header.ensures.same c.requires.header in
    inr (c.refuse_with.ensures.rose, lacks_cell s c.args.slot.now c.requires.slot c.args.item.now not)

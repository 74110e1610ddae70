use Rattle.mig_files.proofs.Derivation.{on_ok}
use Rattle.mig_files.proofs.Headers.{held_by, free_by, free_none}
use Rattle.mig_files.proofs.Grounds.{on_err, or_by}
use Rattle.mig_files.specs.Sights.{holds_cell}
use Rattle.mig_files.proofs.items.check_free.Goals as goal

pub check_item-requires-clause-held : goal.check_item-requires-clause-held
check_item-requires-clause-held g c = held_by (g.C.Calls.state c.args.calls.now) c.args.slot.now c.args.first.now c.in-Some.item c.in-Some.ensures.some c.requires.header

pub returns-in-Some-clause-free : goal.returns-in-Some-clause-free
returns-in-Some-clause-free g c =
    on_ok c.check_item.result c.check_item.ensures.elsewhere (free_by
    (g.C.Calls.state c.args.calls.now) c.args.seen.now c.args.slot.now c.in-Some.item c.args.first.now c.item_of.ensures.len c.in-Some.ensures.some c.requires.header)

pub returns-in-None-clause-free : goal.returns-in-None-clause-free
returns-in-None-clause-free g c = free_none (g.C.Calls.state c.args.calls.now) c.args.seen.now c.args.slot.now c.args.first.now c.item_of.ensures.len c.in-None.ensures.none c.requires.header

pub returns-in-Some-clause-cause : goal.returns-in-Some-clause-cause
returns-in-Some-clause-cause g c =
    let s = g.C.Calls.state c.args.calls.now in
    let held = held_by s c.args.slot.now c.args.first.now c.in-Some.item c.in-Some.ensures.some c.requires.header in
    on_err c.check_item.result c.check_item.ensures.cause (λ why. or_by why (λ both. (
      both.0,
      record {
        item = c.in-Some.item;
        name = c.in-Some.ensures.name;
        held = holds_cell s c.args.slot.now c.requires.slot c.in-Some.item c.in-Some.ensures.name held;
        alone = both.1;
      },
    )))

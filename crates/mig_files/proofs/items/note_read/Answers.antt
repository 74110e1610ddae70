use Rattle.mig_files.proofs.Common.{arith, is_slot, length, refl, subst, sym, Cell, IsTrue}
use Rattle.mig_files.proofs.Headers.{first_has, held_by}
use Rattle.mig_files.proofs.Holding.{held_tried}
use Rattle.mig_files.specs.Sights.{slot_len}
use Rattle.mig_files.proofs.items.note_read.Goals as goal

pub returns-in-Some-clause-held : goal.returns-in-Some-clause-held
returns-in-Some-clause-held g c =
    let s = g.C.Calls.state c.args.calls.now in
    let cell = c.args.cell.now in
    let bytes = c.args.bytes.now in
    let slotted : IsTrue (is_slot cell) = subst (λ (c : Cell). IsTrue (is_slot c)) (sym c.in-Slot-None.is-0) refl in
    held_tried c.note.result cell c.in-Some.item slotted
    (held_by s cell c.first_of.result c.in-Some.item c.in-Some.ensures.some
    (first_has s cell (length bytes) bytes c.first_of.result (omega (arith, c.requires.length, slot_len cell slotted)) (omega arith) c.first_of.ensures.first c.requires.found))
    c.note.ensures.others c.note.ensures.noted c.note.ensures.failed c.requires.held

use Rattle.mig_store.proofs.Common.{List, Note, Recorded, ap, arith, count_by, is_sync, length, sym, take_all, ◌∙◌}
use Rattle.mig_store.proofs.NoteLists.{notes_sync, syncs_of}
use Rattle.mig_store.proofs.calls.CallRecord.syncs.Goals as goal

pub overflow_add-syncs : goal.overflow_add-syncs
overflow_add-syncs c = omega (arith, c.self.invariant.1, ap (λ (l : List Note). length l) c.deref-note-items.ensures.value)

pub returns : goal.returns
returns c =
    c.loop-note.invariant.0
    ∙ ap (λ (l : List Note). count_by notes_sync l) (take_all c.loop-note.note-index c.deref-note-items.result.now (omega (arith, c.loop-note-test.false)) ∙ c.deref-note-items.ensures.value)
    ∙ sym (syncs_of c.self.inside.bytes.items c.self.inside.notes.items)
    ∙ ap (λ (r : Recorded). count_by is_sync r.calls) c.self.view_is

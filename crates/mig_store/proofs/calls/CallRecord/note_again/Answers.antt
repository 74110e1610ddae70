use Rattle.mig_store.proofs.Common.{All, IsSpan, List, Note, Recorded, [], ap, arith, asked_by, call_with, calls_of, length, slice_get, slice_range, subst, sym, ◌++◌, ◌<◌, ◌∙◌, ◌∷◌, ◌≡◌}
use Rattle.mig_store.proofs.NoteLists.{calls_more, noted_more, long_more, room_left}
use Rattle.mig_store.proofs.calls.CallRecord.note_again.Goals as goal

pub returns-clause-calls : goal.returns-clause-calls
returns-clause-calls c =
    let notes = c.self.inside.notes.items in
    let bytes = c.self.inside.bytes.items in
    let at : slice_range bytes c.span_at-span.result.from c.span_at-span.result.to ≡ asked_by (slice_get (calls_of bytes notes) c.args.place) =
    c.span_at-span.ensures.value bytes ∙ ap (λ (l : List Note). asked_by (slice_get (calls_of bytes l) c.args.place)) c.deref.ensures.value in
    calls_more notes c.append.new.list.items bytes c.args.act.now c.span_at-span.result c.append.ensures.items (asked_by (slice_get (calls_of bytes notes) c.args.place)) at
    ∙ ap (λ (r : Recorded). r.calls ++ call_with c.args.act.now (asked_by (slice_get r.calls c.args.place)) ∷ []) c.self.view_is

pub invariant_of-self : goal.invariant_of-self
invariant_of-self c =
    let notes = c.self.inside.notes.items in
    let bytes = c.self.inside.bytes.items in
    let left : length notes < c.self.inside.room = room_left c.self.inside.notes.items c.self.inside.bytes.items c.self.inside.room c.args.self.now c.self.view_is c.requires in (
      noted_more notes c.append.new.list.items bytes c.args.act.now c.span_at-span.result c.append.ensures.items c.self.invariant.0.spans
          (c.span_at-span.ensures.within (length bytes) (subst (λ (l : List Note). All (λ n. IsSpan (length bytes) n.span) l) (sym c.deref.ensures.value) c.self.invariant.0.spans)) (omega (arith, c.self.invariant.0.few)),
      omega (arith, left, long_more notes c.append.new.list.items bytes c.args.act.now c.span_at-span.result c.append.ensures.items),
      omega (arith, c.self.invariant.2, c.append.ensures.capacity),
      c.self.invariant.3,
    )

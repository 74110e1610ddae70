use Rattle.mig_store.proofs.Common.{Recorded, [], ap, arith, call_with, ◌++◌, ◌∙◌, ◌∷◌}
use Rattle.mig_store.proofs.NoteLists.{calls_note, noted_note, long_more, room_left}
use Rattle.mig_store.proofs.calls.CallRecord.note.Goals as goal

pub invariant_of-self : goal.invariant_of-self
invariant_of-self c = (
  noted_note c.self.inside.notes.items c.append.new.list.items c.self.inside.bytes.items c.args.bytes.now c.keep-span.new.list.items c.args.act.now c.keep-span.result c.keep-span.ensures.items c.keep-span.ensures.from c.keep-span.ensures.to c.append.ensures.items c.self.invariant.0 c.requires.short,
  omega (arith, room_left c.self.inside.notes.items c.self.inside.bytes.items c.self.inside.room c.args.self.now c.self.view_is c.requires.room, long_more c.self.inside.notes.items c.append.new.list.items c.self.inside.bytes.items c.args.act.now c.keep-span.result c.append.ensures.items),
  omega (arith, c.self.invariant.2, c.append.ensures.capacity),
  omega (arith, c.self.invariant.3, c.keep-span.ensures.capacity),
)

pub returns-clause-calls : goal.returns-clause-calls
returns-clause-calls c =
    calls_note c.self.inside.notes.items c.append.new.list.items c.self.inside.bytes.items c.args.bytes.now c.keep-span.new.list.items c.args.act.now c.keep-span.result c.keep-span.ensures.items c.keep-span.ensures.from c.keep-span.ensures.to c.append.ensures.items c.self.invariant.0
    ∙ ap (λ (r : Recorded). r.calls ++ call_with c.args.act.now c.args.bytes.now ∷ []) c.self.view_is

use Rattle.mig_store.proofs.Common.{Entry, ap, arith, crash_entry, get_or, held_map, length, set, ◌<◌, ◌∙◌}
use Rattle.std.proofs.lemmas.List.{get_or_default}
use Rattle.std.proofs.lemmas.List.Edits.{map_over_more}
use Rattle.mig_store.proofs.contents.crash_all.Goals as goal

pub loop-h-preserved : goal.loop-h-preserved
loop-h-preserved c =
    let ys = c.loop-h.h-items in
    let i = c.loop-h.h-index in
    let d = c.h-item.result in
    let here : i < length ys = omega arith in
    ap (λ (v : Entry). set ys i (record { cell = (get_or ys i d).cell; value = v })) c.crash.ensures
    ∙ map_over_more (held_map (crash_entry c.args.calls.now.calls c.args.period c.args.pick)) c.deref_mut-h-items.result.now ys i (get_or ys i d)
    c.loop-h-test.true c.loop-h.invariant (get_or_default ys i d (get_or ys i d) here)

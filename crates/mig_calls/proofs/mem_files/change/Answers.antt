use Rattle.mig_calls.proofs.Common.{AreDifferent, List, SeenFile, ap, changed, look, subst}
use Rattle.mig_calls.proofs.FileLists.{places_kept, seen_change, seen_same}
use Rattle.std.proofs.lemmas.Result.{on_err_weaker, on_ok_weaker}
use Rattle.mig_calls.proofs.mem_files.change.Goals as goal

pub returns-in-Some-clause-places : goal.returns-in-Some-clause-places
returns-in-Some-clause-places c = places_kept c.args.files.now.items c.in-Some.i c.index_mut.result.now c.change.new.self c.index_mut.ensures.value c.change.ensures.place

pub returns-in-Some-clause-done : goal.returns-in-Some-clause-done
returns-in-Some-clause-done c = on_ok_weaker c.change.result
    (seen_change c.args.files.now.items c.in-Some.i c.index_mut.result.now c.change.new.self c.index_mut.ensures.value c.change.ensures.place c.args.place.now
    (rw (← c.requires) c.in-Some.ensures.found) (subst AreDifferent c.requires c.find.ensures.different) (changed c.args.change.now))
    c.change.ensures.done

pub returns-in-Some-clause-nothing : goal.returns-in-Some-clause-nothing
returns-in-Some-clause-nothing c = on_err_weaker c.change.result
    (λ is q. ap (λ (l : List SeenFile). look l q) (seen_same c.args.files.now.items c.in-Some.i c.index_mut.result.now c.change.new.self c.index_mut.ensures.value c.change.ensures.place is))
    c.change.ensures.nothing

use Rattle.mig_calls.proofs.Common.{AreDifferent, SeenFile, ap, file_moment, seen_file, seen_files, subst, sym, ◌∙◌}
use Rattle.std.proofs.Math.ListN.{get_or-map}
use Rattle.mig_calls.proofs.FileLists.{look-found, look-absent}
use Rattle.mig_calls.proofs.mem_files.get.Goals as goal

pub returns-in-Some-clause-some : goal.returns-in-Some-clause-some
returns-in-Some-clause-some c =
    let d = c.index-files-i.result in
    look-found (seen_files c.args.files.now) c.args.place.now c.in-Some.i (rw (← c.requires) c.in-Some.ensures.found) (subst AreDifferent c.requires c.find.ensures.different) (seen_file d)
    ∙ ap (λ (s : SeenFile). s.file) (get_or-map seen_file c.args.files.now c.in-Some.i d) ∙ sym (ap file_moment c.index-files-i.is)

pub returns-in-None-clause-none : goal.returns-in-None-clause-none
returns-in-None-clause-none c = look-absent (seen_files c.args.files.now) c.args.place.now (rw (← c.requires) c.in-None.ensures.found)

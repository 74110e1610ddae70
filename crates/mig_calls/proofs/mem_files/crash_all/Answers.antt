use Rattle.mig_calls.proofs.Common.{MemFile, ap, crashed, file_moment, length-map, seen_file, seen_files, subst, sym, ℕ, ◌<◌, ◌∙◌}
use Rattle.mig_calls.proofs.FileLists.{seen_more}
use Rattle.mig_calls.proofs.mem_files.crash_all.Goals as goal

pub loop-file-preserved : goal.loop-file-preserved
loop-file-preserved c =
    let xs = c.deref_mut-file-items.result.now in
    seen_more c.loop-file.file-items c.loop-file.file-index c.file-item.result c.crash.new.self c.file-item.is (c.crash.ensures.place ∙ ap (λ (f : MemFile). f.place) (sym c.file-item.is))
    (crashed c.args.pick) (seen_files xs) (subst (λ (n : ℕ). c.loop-file.file-index < n) (sym (length-map xs seen_file)) c.loop-file-test.true) c.loop-file.invariant
    (c.crash.ensures.done ∙ ap (λ (f : MemFile). (crashed c.args.pick) (file_moment f)) (sym c.file-item.is))

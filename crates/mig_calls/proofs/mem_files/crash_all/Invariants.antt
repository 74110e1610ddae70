use Rattle.mig_calls.proofs.Common.{crashed, drop, map, on_file, seen_files, take, ◌++◌, ◌≡◌}
use Rattle.mig_calls.proofs.mem_files.crash_all.Given as goal

abbrev pub invariant-loop-file : goal.invariant-loop-file
invariant-loop-file l = seen_files l.file-items ≡ map (on_file (crashed l.pick)) (take l.file-index (seen_files l.initial.file-items)) ++ drop l.file-index (seen_files l.initial.file-items)

use Rattle.mig_calls.proofs.Common.{drop, map, on_file, seen_files, take, with_name, ◌++◌, ◌≡◌}
use Rattle.mig_calls.proofs.mem_files.name_all.Given as goal

abbrev pub invariant-loop-file : goal.invariant-loop-file
invariant-loop-file l = seen_files l.file-items ≡ map (on_file with_name) (take l.file-index (seen_files l.initial.file-items)) ++ drop l.file-index (seen_files l.initial.file-items)

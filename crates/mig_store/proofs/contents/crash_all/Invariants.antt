use Rattle.mig_store.proofs.Common.{crash_entry, drop, held_map, map, take, ◌++◌, ◌≡◌}
use Rattle.mig_store.proofs.contents.crash_all.Given as goal

abbrev pub invariant-loop-h : goal.invariant-loop-h
invariant-loop-h l = l.h-items ≡ map (held_map (crash_entry l.calls.calls l.period l.pick)) (take l.h-index l.initial.h-items) ++ drop l.h-index l.initial.h-items

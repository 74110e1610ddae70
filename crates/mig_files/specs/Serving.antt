-- What a store over files is made of, beside what it tells.
use Rattle.std.specs.Prelude.{ℕ, Bool, List, Option}
use Rattle.mig_base.specs.declared.cells.Cell.{Cell}
use Rattle.mig_calls.specs.declared.calls.Calls.{Ghosts}
use Rattle.mig_calls.specs.Files.{FilesState}
use Rattle.mig_files.specs.declared.store.FileStore.{FileStore}

-- what its files tell
abbrev pub calls_state : {C : Type 0} {k : Ghosts C} → FileStore C k → FilesState
calls_state {C} {k} s = k.state s.calls

-- a sync has failed, so each call fails from now on
abbrev pub has_failed : {C : Type 0} {k : Ghosts C} → FileStore C k → Bool
has_failed s = s.tracked.notes.lost

-- where this process has seen items
abbrev pub seen_of : {C : Type 0} {k : Ghosts C} → FileStore C k → List (Cell × List ℕ)
seen_of s = s.seen
